-- Each kind of claim follows from its computed test; of answers and conflicts also the test from the claim, so that a test that fails refutes.
-- Assumes nothing.
use Prim.Native.Nat.{ℕ, ◌+◌, ◌≤◌, ◌<◌}
use mathlib.Core.Path.{◌≡◌, refl, sym, ◌∙◌, ap, subst}
use mathlib.Core.Bool.{Bool, true, false, not, ◌&&◌, beq}
use mathlib.Core.List.{List, [], ◌∷◌}
use mathlib.Core.Logic.{⊎_elim}
use native.Mathlib.Omega.{arith}
use lib.Dec.{ltb, leb}
use lib.ListN.{length}
use borrow.Author.Tests.{ltb-true, leb-true, eqb-true, ne_eqb, lt-ltb, le-leb, eq-eqb}
use Rattle.sums.specs.Logic.{implies}
use Rattle.sums.specs.Range.{all_to}
use Rattle.sums.specs.NumSet.{NumSet}
use Rattle.sums.proofs.LogicLaws.{true_false, and_of, and_left, and_right, implies_at, implies_of, not_at, not_so, lt_or_ge}
use Rattle.sums.proofs.RangeLaws.{all_at}
use Rattle.model.specs.Problem.{Problem, Fair}
use Rattle.model.specs.Judgement.{Judgement, sound_at, breaks, refused_grid}
use Rattle.model.specs.Domain.{permitted}
use Rattle.model.specs.Schedule.{Schedule, schedule_of, Sound, cost}
use Rattle.model.specs.Commitment.{Pick, nothing, picked, IsPick, cheapest_run}
use Rattle.model.specs.Prefix.{ValidPrefix, before, rank}
use Rattle.model.specs.Words.{VALUES}
use Rattle.model.specs.Verdict.{Verdict, accepted, refused}
use Rattle.model.specs.Order.{Earlier}
use Rattle.model.specs.Best.{Region, Everywhere, Before, NoneAllowed}
use Rattle.model.specs.Nogood.{Nogood, Holds, IsNogood}
use Rattle.model.specs.Answer.{Answer, optimal, infeasible, incumbent, unknown, Found, Marked, Correct}
use Rattle.model.proofs.DomainLaws.{permits_below}
use Rattle.model.proofs.CommitmentLaws.{cheapest_right, cheapest_picked, none_picked}
use Rattle.claims.specs.Rows.{member}
use Rattle.claims.specs.Tests.{is_sound, every_sound, is_earlier, anywhere, is_before, not_better, dearer, found_tests, is_found, is_none, place_tests, is_place, is_marked, is_correct, takes, not_taken, is_legal, nogood_tests, is_nogood, below, start_is, breaks_rule, same_pick, is_accepted}
use Rattle.claims.proofs.TestLaws.{all_hold_at, all_hold_of, sound_of, sound_at_lem, listed, listed_cost, listed_place, every_at, every_of, earlier_of, earlier_at, legal_of, legal_test, takes_of, takes_at}

-- ---- claims about all schedules

-- the test says whether a schedule is in the region, of its lists too
record Tested (p : Problem) (In : Region) (inside : Schedule → Bool) : Type 0 where
  of : (s : Schedule) → In s → inside s ≡ true
  at : (s : Schedule) → inside s ≡ true → In s
  lists : (s : Schedule) → In s → inside (listed p s) ≡ true

tested_anywhere : (p : Problem) → Tested p Everywhere anywhere
unfolding anywhere
tested_anywhere p = record { of = λ s i. refl; at = λ s e. tt; lists = λ s i. refl }

tested_before : (p : Problem) (mark : List ℕ) → Tested p (Before p mark) (is_before p mark)
unfolding is_before
tested_before p mark = record { of = λ s i. i; at = λ s e. e; lists = λ s i. ap (λ (l : List ℕ). before l mark) (listed_place p s) ∙ i }

module _ (p : Problem) (fair : Fair p) where
  dearer_at : (c : ℕ) (s : Schedule) → Sound p s → dearer p c (listed p s) ≡ true → c < cost p s
  unfolding dearer
  dearer_at c s sound e = subst (λ (v : ℕ). c < v) (listed_cost p s sound) (ltb-true c (cost p (listed p s)) e)

  module _ (In : Region) (inside : Schedule → Bool) (r : Tested p In inside) where
    -- no sound schedule of the region is cheaper, none of that cost earlier
    found_of : (ceiling c : ℕ) (ss rs : List ℕ) → is_found p ceiling inside c ss rs ≡ true → Found p ceiling In c ss rs
    unfolding is_found not_better
    found_of ceiling c ss rs e =
        let best = schedule_of ss rs in
        let h = all_hold_at (found_tests p ceiling inside c ss rs) e in
        let costs = eqb-true (cost p best) c h.1.1.0 in
        let under = leb-true c ceiling h.1.1.1.1.0 in
        record {
          starts = eqb-true (length ss) p.units h.0;
          runs = eqb-true (length rs) p.weeks h.1.0;
          costs = costs;
          best = record {
            allowed = record { sound = sound_at_lem p best h.1.1.1.0; cheap = omega arith };
            inside = r.at best h.1.1.1.1.1.0;
            least = λ q sq i. omega (arith, costs, dear q sq i);
            first = λ q sq i l. omega (arith, costs, dearer_earlier q sq i l);
          };
        }
      where
        cheap : Schedule → Bool
        cheap q = leb c (cost p (listed p q))

        later : Schedule → Bool
        later q = implies (is_earlier p (listed p q) (schedule_of ss rs)) (ltb c (cost p (listed p q)))

        at : (q : Schedule) → Sound p q → In q → (cheap q && later q) ≡ true
        at q sq i =
            let every = (all_hold_at (found_tests p ceiling inside c ss rs) e).1.1.1.1.1.1.0 in
            implies_at (inside (listed p q)) (cheap q && later q) (every_at p q fair (not_better p inside (schedule_of ss rs) c) every sq) (r.lists q i)

        dear : (q : Schedule) → Sound p q → In q → c ≤ cost p q
        dear q sq i = omega (arith, leb-true c (cost p (listed p q)) (and_left (cheap q) (later q) (at q sq i)), listed_cost p q sq)

        dearer_earlier : (q : Schedule) → Sound p q → In q → Earlier p q (schedule_of ss rs) → c < cost p q
        dearer_earlier q sq i l =
            let more = ltb c (cost p (listed p q)) in
            let now = earlier_of p q (schedule_of ss rs) l in
            let h = implies_at (is_earlier p (listed p q) (schedule_of ss rs)) more (and_right (cheap q) (later q) (at q sq i)) now in
            omega (arith, ltb-true c (cost p (listed p q)) h, listed_cost p q sq)

    found_test : (ceiling c : ℕ) (ss rs : List ℕ) → Found p ceiling In c ss rs → is_found p ceiling inside c ss rs ≡ true
    unfolding is_found not_better
    found_test ceiling c ss rs h =
        let best = schedule_of ss rs in
        let costs = h.costs in
        let cheap = h.best.allowed.cheap in
        let starts = eq-eqb (length ss) p.units h.starts in
        let runs = eq-eqb (length rs) p.weeks h.runs in
        let sound = sound_of p best h.best.allowed.sound in
        let under = le-leb c ceiling (omega arith) in
        let within = r.of best h.best.inside in
        let every = every_of p (not_better p inside best c) kept in
        all_hold_of (found_tests p ceiling inside c ss rs) (starts, (runs, (eq-eqb (cost p best) c costs, (sound, (under, (within, (every, tt)))))))
      where
        kept : (s : Schedule) → Sound p s → not_better p inside (schedule_of ss rs) c s ≡ true
        kept s sound =
            let costs = h.costs in
            let later = implies (is_earlier p s (schedule_of ss rs)) (ltb c (cost p s)) in
            implies_of (inside s) (leb c (cost p s) && later) (λ i. and_of (leb c (cost p s)) later
            (le-leb c (cost p s) (omega (arith, costs, h.best.least s sound (r.at s i))))
            (implies_of (is_earlier p s (schedule_of ss rs)) (ltb c (cost p s))
            (λ l. lt-ltb c (cost p s) (omega (arith, costs, h.best.first s sound (r.at s i) (earlier_at p s (schedule_of ss rs) l))))))

    none_of : (ceiling : ℕ) → is_none p ceiling inside ≡ true → NoneAllowed p ceiling In
    unfolding is_none
    none_of ceiling e q i a =
        let every = every_at p q fair (λ s. implies (inside s) (dearer p ceiling s)) e a.sound in
        let more = implies_at (inside (listed p q)) (dearer p ceiling (listed p q)) every (r.lists q i) in
        omega (arith, a.cheap, dearer_at ceiling q a.sound more)

    none_test : (ceiling : ℕ) → NoneAllowed p ceiling In → is_none p ceiling inside ≡ true
    unfolding is_none dearer
    none_test ceiling h =
        every_of p (λ s. implies (inside s) (dearer p ceiling s)) (λ s sound. implies_of (inside s) (dearer p ceiling s) (λ i.
        ⊎_elim
        (λ (l : ceiling < cost p s). lt-ltb ceiling (cost p s) l)
        (λ (l : cost p s ≤ ceiling). absurd (h s (r.at s i) (record { sound = sound; cheap = l })))
        (lt_or_ge ceiling (cost p s))))

  pub nobody_of : every_sound p (λ s. false) ≡ true → (s : Schedule) → Sound p s → ⊥
  nobody_of e s sound = true_false (sym (every_at p s fair (λ s. false) e sound))

  -- ---- answers

  pub place_of : (ss : List ℕ) → is_place p ss ≡ true → ValidPrefix p ss
  unfolding is_place
  place_of ss e =
      let h = all_hold_at (place_tests p ss) e in
      record { some = leb-true 1 (length ss) h.0; within = leb-true (length ss) p.units h.1.0; permits = h.1.1.0 }

  place_test : (ss : List ℕ) → ValidPrefix p ss → is_place p ss ≡ true
  unfolding is_place
  place_test ss h = all_hold_of (place_tests p ss) (le-leb 1 (length ss) h.some, (le-leb (length ss) p.units h.within, (h.permits, tt)))

  marked_of : (budget : ℕ) (mark : List ℕ) → is_marked p budget mark ≡ true → Marked p budget mark
  unfolding is_marked
  marked_of budget mark e =
      let late = leb budget (rank p mark) in
      record { prefix = place_of mark (and_left (is_place p mark) late e); late = leb-true budget (rank p mark) (and_right (is_place p mark) late e) }

  marked_test : (budget : ℕ) (mark : List ℕ) → Marked p budget mark → is_marked p budget mark ≡ true
  unfolding is_marked
  marked_test budget mark h =
      and_of (is_place p mark) (leb budget (rank p mark)) (place_test mark h.prefix) (le-leb budget (rank p mark) h.late)

  pub correct_of : (c b : ℕ) (a : Answer) → is_correct p c b a ≡ true → Correct p c b a
  unfolding is_correct
  correct_of c b (optimal k ss rs) e = found_of Everywhere anywhere (tested_anywhere p) c k ss rs e
  correct_of c b infeasible e = none_of Everywhere anywhere (tested_anywhere p) c e
  correct_of c b (incumbent k ss rs mark) e =
      let m = is_marked p b mark in
      let f = is_found p c (is_before p mark) k ss rs in
      (marked_of b mark (and_left m f e), found_of (Before p mark) (is_before p mark) (tested_before p mark) c k ss rs (and_right m f e))
  correct_of c b (unknown mark) e =
      let m = is_marked p b mark in
      let n = is_none p c (is_before p mark) in
      (marked_of b mark (and_left m n e), none_of (Before p mark) (is_before p mark) (tested_before p mark) c (and_right m n e))

  pub correct_test : (c b : ℕ) (a : Answer) → Correct p c b a → is_correct p c b a ≡ true
  unfolding is_correct
  correct_test c b (optimal k ss rs) h = found_test Everywhere anywhere (tested_anywhere p) c k ss rs h
  correct_test c b infeasible h = none_test Everywhere anywhere (tested_anywhere p) c h
  correct_test c b (incumbent k ss rs mark) h =
      and_of (is_marked p b mark) (is_found p c (is_before p mark) k ss rs)
      (marked_test b mark h.0) (found_test (Before p mark) (is_before p mark) (tested_before p mark) c k ss rs h.1)
  correct_test c b (unknown mark) h =
      and_of (is_marked p b mark) (is_none p c (is_before p mark))
      (marked_test b mark h.0) (none_test (Before p mark) (is_before p mark) (tested_before p mark) c h.1)

  -- ---- conflicts

  pub conflict_of : (g : Nogood) → is_legal p 0 g.choices ≡ true → every_sound p (not_taken p g) ≡ true → Holds p g
  unfolding not_taken
  conflict_of g l e s sound t =
      dearer_at g.bound s sound
      (implies_at (takes g.choices (listed p s)) (dearer p g.bound (listed p s)) (every_at p s fair (not_taken p g) e sound)
      (takes_of p s 0 g.choices (legal_of p 0 g.choices l) t))

  -- a sound schedule with the choices at or below the bound refutes a conflict
  pub refuted_of : (g : Nogood) (s : Schedule) → is_sound p s ≡ true → takes g.choices s ≡ true → leb (cost p s) g.bound ≡ true → Holds p g → ⊥
  refuted_of g s sound t e h =
      omega (arith, h s (sound_at_lem p s sound) (takes_at s g.choices t), leb-true (cost p s) g.bound e)

  pub nogood_of : (g : Nogood) → is_nogood p g ≡ true → IsNogood p g
  unfolding is_nogood
  nogood_of g e =
      let h = all_hold_at (nogood_tests p g) e in
      record {
        few = leb-true (length g.choices) 8 h.0;
        small = ltb-true g.bound VALUES h.1.0;
        legal = legal_of p 0 g.choices h.1.1.0;
        holds = conflict_of g h.1.1.0 h.1.1.1.0;
      }

  pub nogood_test : (g : Nogood) → IsNogood p g → is_nogood p g ≡ true
  unfolding is_nogood not_taken dearer
  nogood_test g h =
      let few = le-leb (length g.choices) 8 h.few in
      let small = lt-ltb g.bound VALUES h.small in
      all_hold_of (nogood_tests p g) (few, (small, (legal_test p 0 g.choices h.legal, (every_of p (not_taken p g) kept, tt))))
    where
      kept : (s : Schedule) → Sound p s → not_taken p g s ≡ true
      kept s sound =
          implies_of (takes g.choices s) (dearer p g.bound s) (λ t. lt-ltb g.bound (cost p s) (h.holds s sound (takes_at s g.choices t)))

-- ---- claims about starts

beq_at : (a b : Bool) → beq a b ≡ true → a ≡ b
beq_at true true e = refl
beq_at true false e = true_false (sym e)
beq_at false true e = true_false (sym e)
beq_at false false e = refl

-- a number from n on is not among numbers below n
member_below : (n v : ℕ) (xs : List ℕ) → below n xs ≡ true → n ≤ v → member v xs ≡ false
unfolding below member
member_below n v [] e h = refl
member_below n v (x ∷ xs) e h =
    let l = ltb-true x n (and_left (ltb x n) (below n xs) e) in
    rw (ne_eqb v x (λ q. omega arith), member_below n v xs (and_right (ltb x n) (below n xs) e) h)

pub starts_of_lem : (p : Problem) → Fair p → (i : ℕ) (ss : List ℕ) → i < p.units → below (p.weeks + 1) ss ≡ true → all_to (p.weeks + 1) (start_is p i ss) ≡ true
    → (s : ℕ) → permitted p i s ≡ member s ss
unfolding start_is
starts_of_lem p fair i ss h b e s =
    ⊎_elim
    (λ (l : s < p.weeks + 1). beq_at (permitted p i s) (member s ss) (all_at (p.weeks + 1) (start_is p i ss) e s l))
    (λ (l : p.weeks + 1 ≤ s). not_so (permitted p i s) (λ q. omega (arith, permits_below p fair i s h q)) ∙ sym (member_below (p.weeks + 1) s ss b l))
    (lt_or_ge s (p.weeks + 1))

-- ---- verdicts, judgements and runs of a week

pub breaks_of : (n : ℕ) (j : Judgement) → breaks_rule n j ≡ true → j ≡ breaks n
breaks_of n (sound_at c) e = true_false (sym e)
breaks_of n (breaks m) e = ap breaks (eqb-true m n e)
breaks_of n (refused_grid m q) e = true_false (sym e)

pub accepted_of : (v : Verdict) → is_accepted v ≡ true → v ≡ accepted
accepted_of accepted e = refl
accepted_of (refused n q) e = true_false (sym e)

same_pick_at : (x y : Pick) → same_pick x y ≡ true → x ≡ y
unfolding same_pick
same_pick_at nothing nothing e = refl
same_pick_at nothing (picked r) e = true_false (sym e)
same_pick_at (picked q) nothing e = true_false (sym e)
same_pick_at (picked q) (picked r) e = ap picked (eqb-true q r e)

same_pick_refl : (x : Pick) → same_pick x x ≡ true
unfolding same_pick
same_pick_refl nothing = refl
same_pick_refl (picked r) = eq-eqb r r refl

module _ (p : Problem) (t : ℕ) (out : NumSet) where
  pub pick_of : (x : Pick) → same_pick (cheapest_run p t out) x ≡ true → IsPick p t out x
  pick_of x e = subst (λ (y : Pick). IsPick p t out y) (same_pick_at (cheapest_run p t out) x e) (cheapest_right p t out)

  picked_is : (x : Pick) → IsPick p t out x → cheapest_run p t out ≡ x
  picked_is nothing h = none_picked p t out h
  picked_is (picked r) h = cheapest_picked p t out r h

  pub pick_test : (x : Pick) → IsPick p t out x → same_pick (cheapest_run p t out) x ≡ true
  pick_test x h = subst (λ (y : Pick). same_pick (cheapest_run p t out) y ≡ true) (picked_is x h) (same_pick_refl (cheapest_run p t out))

-- a test that fails is not met
pub not_met : (b : Bool) → not b ≡ true → b ≡ true → ⊥
not_met b e h = true_false (sym h ∙ not_at b e)
