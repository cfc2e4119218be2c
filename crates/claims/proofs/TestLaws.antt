-- What the computed tests say: of a schedule, and of all sound schedules by those that lists stand for.
-- Assumes nothing.
use Prim.Native.Nat.{ℕ, zero, suc, ◌+◌, ◌^◌}
use mathlib.Core.Path.{◌≡◌, refl, sym, ◌∙◌, ap₂, subst}
use mathlib.Core.Bool.{Bool, true, false, ◌&&◌, ◌||◌}
use mathlib.Core.List.{List, [], ◌∷◌, ◌++◌}
use mathlib.Core.Logic.{◌⊎◌, inl, inr, ⊎_elim}
use native.Mathlib.Omega.{arith}
use lib.Dec.{ltb, eqb}
use borrow.Author.Tests.{ltb-true, leb-true, eqb-true, lt-ltb, le-leb, eq-eqb}
use Rattle.sums.specs.Logic.{implies}
use Rattle.sums.specs.Range.{all_to, list_to, first_to, all_lists}
use Rattle.sums.proofs.LogicLaws.{true_false, and_of, and_left, and_right, or_left, or_right, implies_at, implies_of}
use Rattle.sums.proofs.RangeLaws.{all_at, all_of, some_of, first_is, list_length, list_at, lists_at, lists_of}
use Rattle.model.specs.Problem.{Problem, Fair}
use Rattle.model.specs.Rules.{keeps1, broken}
use Rattle.model.specs.Schedule.{Schedule, schedule_of, out_in, lay_out, IsRun, Sound, cost}
use Rattle.model.specs.Commitment.{free_at, run_before}
use Rattle.model.specs.Order.{Same, Alike, Lower, Earlier}
use Rattle.model.specs.Prefix.{starts_of}
use Rattle.model.specs.Nogood.{Choice, Legal, Takes}
use Rattle.model.proofs.DomainLaws.{permits_below}
use Rattle.model.proofs.RuleLaws.{broken_none}
use Rattle.model.proofs.ScheduleLaws.{sound_agree, cost_agree}
use Rattle.model.proofs.CommitmentLaws.{free_of, free_at_lem}
use Rattle.model.proofs.OrderLaws.{lower_agree}
use Rattle.claims.specs.Tests.{every, same_list, permits_at, run_at, is_sound, where_sound, with_starts, every_sound, same_to, lower_at, is_lower, is_earlier, takes, choice_tests, is_legal}

-- ---- tests in a row

-- each of them holds
abbrev pub AllHold : List Bool → Type 0
AllHold [] = Unit {0}
AllHold (b ∷ bs) = (b ≡ true) × AllHold bs

pub all_hold_at : (bs : List Bool) → every bs ≡ true → AllHold bs
unfolding every
all_hold_at [] e = tt
all_hold_at (b ∷ bs) e = (and_left b (every bs) e, all_hold_at bs (and_right b (every bs) e))

pub all_hold_of : (bs : List Bool) → AllHold bs → every bs ≡ true
unfolding every
all_hold_of [] h = refl
all_hold_of (b ∷ bs) h = and_of b (every bs) h.0 (all_hold_of bs h.1)

pub same_list_at : (xs ys : List ℕ) → same_list xs ys ≡ true → xs ≡ ys
unfolding same_list
same_list_at [] [] e = refl
same_list_at [] (y ∷ ys) e = true_false (sym e)
same_list_at (x ∷ xs) [] e = true_false (sym e)
same_list_at (x ∷ xs) (y ∷ ys) e =
    ap₂ {C = List ℕ} (λ a l. a ∷ l) (eqb-true x y (and_left (eqb x y) (same_list xs ys) e)) (same_list_at xs ys (and_right (eqb x y) (same_list xs ys) e))

same_list_refl : (xs : List ℕ) → same_list xs xs ≡ true
unfolding same_list
same_list_refl [] = refl
same_list_refl (x ∷ xs) = and_of (eqb x x) (same_list xs xs) (eq-eqb x x refl) (same_list_refl xs)

pub same_list_of : (xs ys : List ℕ) → xs ≡ ys → same_list xs ys ≡ true
same_list_of xs ys e = subst (λ (l : List ℕ). same_list xs l ≡ true) e (same_list_refl xs)

-- ---- a schedule

module _ (p : Problem) (s : Schedule) where
  run_of : (t : ℕ) → IsRun p (out_in p s.start t) (s.run t) → run_at p s t ≡ true
  unfolding run_at
  run_of t r =
      and_of (ltb (s.run t) (2 ^ p.units)) (all_to p.units (free_at (out_in p s.start t) (s.run t)))
      (lt-ltb (s.run t) (2 ^ p.units) r.units)
      (free_of p.units (out_in p s.start t) (s.run t) r.free)

  run_at_lem : (t : ℕ) → run_at p s t ≡ true → IsRun p (out_in p s.start t) (s.run t)
  unfolding run_at
  run_at_lem t e =
      let below = ltb (s.run t) (2 ^ p.units) in
      let frees = all_to p.units (free_at (out_in p s.start t) (s.run t)) in
      record {
        units = ltb-true (s.run t) (2 ^ p.units) (and_left below frees e);
        free = free_at_lem p.units (out_in p s.start t) (s.run t) (and_right below frees e);
      }

  pub sound_of : Sound p s → is_sound p s ≡ true
  unfolding is_sound permits_at
  sound_of sound =
      and_of (all_to p.units (permits_at p s) && all_to p.weeks (run_at p s)) (eqb (broken p (lay_out p s)) 0)
      (and_of (all_to p.units (permits_at p s)) (all_to p.weeks (run_at p s))
      (all_of p.units (permits_at p s) sound.schedule.permits)
      (all_of p.weeks (run_at p s) (λ t l. run_of t (sound.schedule.runs t l))))
      (eq-eqb (broken p (lay_out p s)) 0 sound.keeps)

  pub sound_at_lem : is_sound p s ≡ true → Sound p s
  unfolding is_sound permits_at
  sound_at_lem e = record {
    schedule = record {
      permits = all_at p.units (permits_at p s) (and_left (all_to p.units (permits_at p s)) (all_to p.weeks (run_at p s)) is);
      runs = λ t l. run_at_lem t (all_at p.weeks (run_at p s) (and_right (all_to p.units (permits_at p s)) (all_to p.weeks (run_at p s)) is) t l);
    };
    keeps = eqb-true (broken p (lay_out p s)) 0 (and_right (all_to p.units (permits_at p s) && all_to p.weeks (run_at p s)) (eqb (broken p (lay_out p s)) 0) e);
  }
    where
      is : (all_to p.units (permits_at p s) && all_to p.weeks (run_at p s)) ≡ true
      is = and_left (all_to p.units (permits_at p s) && all_to p.weeks (run_at p s)) (eqb (broken p (lay_out p s)) 0) e

-- ---- all sound schedules

-- a schedule by the lists of its starts and runs
abbrev pub listed : Problem → Schedule → Schedule
listed p s = schedule_of (list_to p.units s.start) (list_to p.weeks s.run)

module _ (p : Problem) (s : Schedule) where
  pub listed_starts : Same p.units (listed p s).start s.start
  listed_starts i h = list_at p.units s.start i h

  pub listed_runs : Same p.weeks (listed p s).run s.run
  listed_runs t l = list_at p.weeks s.run t l

  listed_alike : Alike p (listed p s) s
  listed_alike = (listed_starts, listed_runs)

  pub listed_cost : Sound p s → cost p (listed p s) ≡ cost p s
  listed_cost sound = cost_agree p s (listed p s) listed_alike sound.schedule

  -- a test that holds of all lists that are sound schedules holds of the lists of this one
  pub every_at : Fair p → (q : Schedule → Bool) → every_sound p q ≡ true → Sound p s → q (listed p s) ≡ true
  unfolding every_sound with_starts where_sound permits_at
  every_at fair q e sound =
      let x = lay_out p (listed p s) in
      let runs = all_of p.weeks (run_at p (listed p s)) (λ t l. run_of p (listed p s) t (same.schedule.runs t l)) in
      let served = implies_at (all_to p.weeks (run_at p (listed p s))) (implies (keeps1 p x) (implies (eqb (broken p x) 0) (q (listed p s)))) own runs in
      let kept = implies_at (keeps1 p x) (implies (eqb (broken p x) 0) (q (listed p s))) served (broken_none p x same.keeps).weeks.first in
      implies_at (eqb (broken p x) 0) (q (listed p s)) kept (eq-eqb (broken p x) 0 same.keeps)
    where
      ss : List ℕ
      ss = list_to p.units s.start

      same : Sound p (listed p s)
      same = sound_agree p s (listed p s) listed_alike fair sound

      started : with_starts p q ss ≡ true
      started =
          lists_at p.units (p.weeks + 1) (with_starts p q) e ss (list_length p.units s.start)
          (λ i h. rw (listed_starts i h) (permits_below p fair i (s.start i) h (sound.schedule.permits i h)))

      own : where_sound p q (listed p s) ≡ true
      own =
          lists_at p.weeks (2 ^ p.units) (λ rs. where_sound p q (schedule_of ss rs))
          (implies_at (all_to p.units (permits_at p (schedule_of ss []))) (all_lists p.weeks (2 ^ p.units) (λ rs. where_sound p q (schedule_of ss rs))) started
          (all_of p.units (permits_at p (schedule_of ss [])) (λ i h. same.schedule.permits i h)))
          (list_to p.weeks s.run) (list_length p.weeks s.run) (λ t l. rw (listed_runs t l) (sound.schedule.runs t l).units)

-- a test that every sound schedule meets
pub every_of : (p : Problem) (q : Schedule → Bool) → ((s : Schedule) → Sound p s → q s ≡ true) → every_sound p q ≡ true
unfolding every_sound with_starts where_sound permits_at
every_of p q h =
    lists_of p.units (p.weeks + 1) (with_starts p q)
    (λ ss l b. implies_of (permits ss) (all_lists p.weeks (2 ^ p.units) (λ rs. where_sound p q (schedule_of ss rs)))
    (λ e. lists_of p.weeks (2 ^ p.units) (λ rs. where_sound p q (schedule_of ss rs)) (λ rs k d. where_sound_lem ss rs e)))
  where
    permits : List ℕ → Bool
    permits ss = all_to p.units (permits_at p (schedule_of ss []))

    sound_lists : (ss rs : List ℕ) → permits ss ≡ true → all_to p.weeks (run_at p (schedule_of ss rs)) ≡ true
        → eqb (broken p (lay_out p (schedule_of ss rs))) 0 ≡ true → Sound p (schedule_of ss rs)
    sound_lists ss rs e r k = record {
      schedule = record {
        permits = all_at p.units (permits_at p (schedule_of ss [])) e;
        runs = λ t l. run_at_lem p (schedule_of ss rs) t (all_at p.weeks (run_at p (schedule_of ss rs)) r t l);
      };
      keeps = eqb-true (broken p (lay_out p (schedule_of ss rs))) 0 k;
    }

    where_sound_lem : (ss rs : List ℕ) → permits ss ≡ true → where_sound p q (schedule_of ss rs) ≡ true
    where_sound_lem ss rs e =
        let s = schedule_of ss rs in
        let kept = implies (eqb (broken p (lay_out p s)) 0) (q s) in
        implies_of (all_to p.weeks (run_at p s)) (implies (keeps1 p (lay_out p s)) kept) (λ r. implies_of (keeps1 p (lay_out p s)) kept
        (λ d. implies_of (eqb (broken p (lay_out p s)) 0) (q s) (λ k. h s (sound_lists ss rs e r k))))

list_same : (n : ℕ) (f g : ℕ → ℕ) → Same n f g → list_to n f ≡ list_to n g
unfolding list_to
list_same zero f g h = refl
list_same (suc n) f g h = ap₂ {C = List ℕ} (λ l a. l ++ (a ∷ [])) (list_same n f g (λ k l. h k (omega arith))) (h n (omega arith))

-- its starts, read as a place, are the same
pub listed_place : (p : Problem) (s : Schedule) → starts_of p (listed p s) ≡ starts_of p s
unfolding starts_of
listed_place p s = list_same p.units (listed p s).start s.start (listed_starts p s)

-- ---- order

same_at : (n : ℕ) (f g : ℕ → ℕ) → same_to n f g ≡ true → Same n f g
unfolding same_to
same_at n f g e k l = eqb-true (f k) (g k) (all_at n (λ k. eqb (f k) (g k)) e k l)

lower_at_lem : (lower : ℕ → ℕ → Bool) (n : ℕ) (f g : ℕ → ℕ) → is_lower lower n f g ≡ true → Lower lower n f g
unfolding is_lower lower_at
lower_at_lem lower n f g e =
    let h = first_is n (lower_at lower f g) e in
    let k = first_to n (lower_at lower f g) in
    record {
      at = k;
      below = h.below;
      same = same_at k f g (and_left (same_to k f g) (lower (f k) (g k)) h.holds);
      less = and_right (same_to k f g) (lower (f k) (g k)) h.holds;
    }

or_at : (a b : Bool) → (a || b) ≡ true → (a ≡ true) ⊎ (b ≡ true)
or_at true b e = inl refl
or_at false b e = inr e

pub earlier_at : (p : Problem) (s q : Schedule) → is_earlier p s q ≡ true → Earlier p s q
unfolding is_earlier
earlier_at p s q e =
    let a = is_lower ltb p.units s.start q.start in
    let b = same_to p.units s.start q.start in
    let c = is_lower (run_before p) p.weeks s.run q.run in
    ⊎_elim
    (λ (h : a ≡ true). inl (lower_at_lem ltb p.units s.start q.start h))
    (λ (h : (b && c) ≡ true). inr
    (same_at p.units s.start q.start (and_left b c h), lower_at_lem (run_before p) p.weeks s.run q.run (and_right b c h)))
    (or_at a (b && c) e)

same_of : (n : ℕ) (f g : ℕ → ℕ) → Same n f g → same_to n f g ≡ true
unfolding same_to
same_of n f g h = all_of n (λ k. eqb (f k) (g k)) (λ k l. eq-eqb (f k) (g k) (h k l))

lower_of : (lower : ℕ → ℕ → Bool) (n : ℕ) (f g : ℕ → ℕ) → Lower lower n f g → is_lower lower n f g ≡ true
unfolding is_lower lower_at
lower_of lower n f g h =
    some_of n (lower_at lower f g) h.at h.below
    (and_of (same_to h.at f g) (lower (f h.at) (g h.at)) (same_of h.at f g h.same) h.less)

pub earlier_of : (p : Problem) (s q : Schedule) → Earlier p s q → is_earlier p (listed p s) q ≡ true
unfolding is_earlier
earlier_of p s q (inl h) =
    or_left (is_lower ltb p.units (listed p s).start q.start) (same_to p.units (listed p s).start q.start && is_lower (run_before p) p.weeks (listed p s).run q.run)
    (lower_of ltb p.units (listed p s).start q.start (lower_agree ltb (listed_starts p s) h))
earlier_of p s q (inr h) =
    or_right (is_lower ltb p.units (listed p s).start q.start) (same_to p.units (listed p s).start q.start && is_lower (run_before p) p.weeks (listed p s).run q.run)
    (and_of (same_to p.units (listed p s).start q.start) (is_lower (run_before p) p.weeks (listed p s).run q.run)
    (same_of p.units (listed p s).start q.start (λ i l. listed_starts p s i l ∙ h.0 i l))
    (lower_of (run_before p) p.weeks (listed p s).run q.run (lower_agree (run_before p) (listed_runs p s) h.1)))

-- ---- choices

pub legal_of : (p : Problem) (u : ℕ) (cs : List Choice) → is_legal p u cs ≡ true → Legal p u cs
unfolding is_legal
legal_of p u [] e = tt
legal_of p u (c ∷ cs) e =
    let rest = is_legal p (c.unit + 1) cs in
    let h = all_hold_at (choice_tests p u c) (and_left (every (choice_tests p u c)) rest e) in
    (leb-true u c.unit h.0, ltb-true c.unit p.units h.1.0, h.1.1.0, legal_of p (c.unit + 1) cs (and_right (every (choice_tests p u c)) rest e))

pub legal_test : (p : Problem) (u : ℕ) (cs : List Choice) → Legal p u cs → is_legal p u cs ≡ true
unfolding is_legal
legal_test p u [] h = refl
legal_test p u (c ∷ cs) h =
    and_of (every (choice_tests p u c)) (is_legal p (c.unit + 1) cs)
    (all_hold_of (choice_tests p u c) (le-leb u c.unit h.0, (lt-ltb c.unit p.units h.1, (h.2, tt)))) (legal_test p (c.unit + 1) cs h.3)

-- a schedule with legal choices has them as lists too
pub takes_of : (p : Problem) (s : Schedule) (u : ℕ) (cs : List Choice) → Legal p u cs → Takes cs s → takes cs (listed p s) ≡ true
unfolding takes
takes_of p s u [] l h = refl
takes_of p s u (c ∷ cs) l h =
    and_of (eqb ((listed p s).start c.unit) c.start) (takes cs (listed p s))
    (eq-eqb ((listed p s).start c.unit) c.start (listed_starts p s c.unit l.1 ∙ h.0))
    (takes_of p s (c.unit + 1) cs l.3 h.1)

pub takes_at : (s : Schedule) (cs : List Choice) → takes cs s ≡ true → Takes cs s
unfolding takes
takes_at s [] e = tt
takes_at s (c ∷ cs) e =
    (eqb-true (s.start c.unit) c.start (and_left (eqb (s.start c.unit) c.start) (takes cs s) e), takes_at s cs (and_right (eqb (s.start c.unit) c.start) (takes cs s) e))
