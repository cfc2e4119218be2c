-- The least score is the cheapest run's, and tells its number and its cost; where it stands for none, there is no run.
-- Assumes nothing.
use Prim.Native.Nat.{ℕ, ◌+◌, ◌*◌, ◌-◌, ◌^◌, ◌≤◌, ◌<◌}
use mathlib.Core.Path.{◌≡◌, refl, sym, ◌∙◌, ap, subst}
use mathlib.Core.Bool.{Bool, true, false, ◌||◌}
use mathlib.Core.List.{List}
use native.Mathlib.Nat.{mul-le-mul_right}
use native.Mathlib.Decide.{dec_lt}
use native.Mathlib.Omega.{arith}
use lib.Pow.{pow_mono}
use borrow.Author.Tests.{ltb-true}
use Rattle.sums.specs.Logic.{if}
use Rattle.sums.specs.NumSet.{NumSet, parts, complement, power, number_of, has}
use Rattle.sums.specs.Table.{entry}
use Rattle.sums.proofs.SumLaws.{sum_at_most, sum_same}
use Rattle.sums.proofs.NumSetLaws.{number_own}
use Rattle.model.specs.Problem.{Problem}
use Rattle.model.specs.Rules.{output}
use Rattle.model.specs.Commitment.{line_cost, run_cost, full_cost, off_cost, run_before, Serves, Cheapest, NoRun, NO_RUN, full_least}
use Rattle.model.proofs.CommitmentLaws.{run_full, full_of, full_none, full_bounded}
use Rattle.model.proofs.FileLaws.{ranged}
use Rattle.sets.specs.Sets.{SETS}
use Rattle.instance.specs.declared.file.File.{File}
use Rattle.instance.specs.File.{problem}
use Rattle.cover.specs.Cover.{UNCOVERED, LeastCover}
use Rattle.cover.proofs.CoverLaws.{least_agree, least_free}
use Rattle.commitment.specs.Score.{SCALE, scored, cost_in, number_in, score_of, weight_of, thrifty, ThriftyRun, decided, LeastWeight, Scored, LeastScore, Column}
use Rattle.commitment.proofs.ChoiceLaws.{weight_for, score_for, term, score_sum, base, least_below, reached_scored}
use Rattle.commitment.proofs.ThriftyLaws.{thrifty_none, thrifty_output, thrifty_decided, thrifty_small}
use Rattle.commitment.proofs.LineLaws.{full_nobody}

module _ (p : Problem) (t : ℕ) (few : p.units ≤ 16) where
  tie_small : (i : ℕ) → i < p.units → power i ≤ SCALE
  unfolding power
  tie_small i l = let s : i ≤ 15 = omega arith in let m : 2 ^ i ≤ 2 ^ 15 = pow_mono s in omega arith

  number_small : (r : ℕ) → r < 2 ^ p.units → r < SETS
  number_small r h = let m : 2 ^ p.units ≤ 2 ^ 16 = pow_mono few in omega arith

  -- a score in the general form
  score_own : (r : ℕ) → r < 2 ^ p.units → score_for p SCALE power t r ≡ score_of p t r
  unfolding score_for score_of number_of
  score_own r h = omega (arith, number_own p.units r h)

  module _ (out : NumSet) where
    -- the score of the thrifty units
    base_score : (r : ℕ) → ThriftyRun p t out r → base p SCALE power t out tie_small ≡ score_of p t r
    base_score r run =
        sym (sum_same p.units (term p SCALE power t (has r)) (term p SCALE power t (thrifty p t out))
        (λ i l. ap (λ (b : Bool). if b (p.running t i * SCALE + power i) (p.off t i * SCALE)) (run.has_them i l)))
        ∙ sym (score_sum p SCALE power t r) ∙ score_own r run.units

    -- with the least weight it is the least score
    weight_below : (v : ℕ) → LeastWeight p t out v → (q : ℕ) → Serves p t out q → base p SCALE power t out tie_small + v ≤ score_of p t q
    unfolding weight_of weight_for
    weight_below v l q s = omega (arith, least_below p SCALE power t out tie_small v l q s, score_own q s.run.units)

    weight_reached : (v : ℕ) → LeastWeight p t out v → v < UNCOVERED → Scored p t out (base p SCALE power t out tie_small + v)
    unfolding weight_of weight_for
    weight_reached v l h =
        let c = reached_scored p SCALE power t out tie_small v (l.candidate.reached h) in
        record { run = c.run; serves = c.serves; score = c.score ∙ score_own c.run c.serves.run.units }

    scored_cheapest : (v : ℕ) → LeastScore p t out v → (s : Scored p t out v) → Cheapest p t out s.run
    unfolding score_of run_before
    scored_cheapest v l s = record {
      serves = s.serves;
      least = λ q a. omega (arith, s.score, small, l.least q a, number_small q a.run.units, mine, run_full p t out q a.run);
      first = λ q a e. omega (arith, s.score, small, l.least q a, ltb-true q s.run e, mine, run_full p t out q a.run);
    }
      where
        small : s.run < SCALE
        small = number_small s.run s.serves.run.units

        mine : full_cost p t s.run ≡ run_cost p t out s.run + off_cost p t out
        mine = run_full p t out s.run s.serves.run

    -- where it is a score at all, it is the cheapest run's and tells its number and its cost
    least_tells : (v : ℕ) → LeastScore p t out v → v < UNCOVERED
        → Cheapest p t out (number_in v) × ((cost_in v ≡ full_cost p t (number_in v)) × (cost_in v ≡ run_cost p t out (number_in v) + off_cost p t out))
    unfolding score_of
    least_tells v l h =
        subst (λ (r : ℕ). Cheapest p t out r × ((cost_in v ≡ full_cost p t r) × (cost_in v ≡ run_cost p t out r + off_cost p t out))) number
        (scored_cheapest v l s, (cost, cost ∙ run_full p t out s.run s.serves.run))
      where
        s : Scored p t out v
        s = l.reached h

        small : s.run < SCALE
        small = number_small s.run s.serves.run.units

        number : s.run ≡ number_in v
        number = omega (arith, s.score, small)

        cost : cost_in v ≡ full_cost p t s.run
        cost = omega (arith, s.score, small)

    -- else there is no run, where every run costs less than NO_RUN
    least_none_left : (v : ℕ) → ((q : ℕ) → Serves p t out q → full_cost p t q < NO_RUN) → LeastScore p t out v → UNCOVERED ≤ v → NoRun p t out
    unfolding score_of
    least_none_left v cheap l h q s = omega (arith, l.least q s, cheap q s, number_small q s.run.units)

-- ---- the same of a file's week, as the code has it

-- what a run of an accepted file costs at most, all other units OFF
pub run_small : (file : File) (t : ℕ) → t < file.layout.weeks → (q : ℕ) → full_cost (problem file) t q ≤ 4000000
unfolding full_cost line_cost parts
run_small file t h q =
    let b = sum_at_most p.units 250000 (parts (has q) (p.running t) (p.off t)) (λ i d. go i d (has q i)) in
    omega (arith, mul-le-mul_right 250000 (ranged file.words.now file.filed.passed).units_most)
  where
    p : Problem
    p = problem file

    week : t < (problem file).weeks
    week = omega arith

    go : (i : ℕ) → i < (problem file).units → (b : Bool) → if b ((problem file).running t i) ((problem file).off t i) ≤ 250000
    go i d true = (ranged file.words.now file.filed.passed).running_most t i week d
    go i d false = (ranged file.words.now file.filed.passed).off_most t i week d

-- so it does by itself, where it serves
pub served_small : (file : File) (t : ℕ) (out : NumSet) → t < file.layout.weeks → (q : ℕ) → Serves (problem file) t out q
    → run_cost (problem file) t out q ≤ 4000000
served_small file t out h q s = omega (arith, run_small file t h q, run_full (problem file) t out q s.run)

module _ (file : File) (t out : ℕ) where
  few : (problem file).units ≤ 16
  few = (ranged file.words.now file.filed.passed).units_most

  -- the cover of least weight
  pub weight_least : (thrifty both need v : ℕ) (caps weights : List ℕ) → ThriftyRun (problem file) t (has out) thrifty
      → Column file.layout.units ((problem file).capacity t) caps → Column file.layout.units (weight_of (problem file) t) weights
      → need ≡ (problem file).demand t - output (problem file) t (has thrifty) → ((k : ℕ) → has both k ≡ (has out k || has thrifty k))
      → LeastCover (complement (has both)) (entry caps) (entry weights) file.layout.units need v → LeastWeight (problem file) t (has out) v
  weight_least r both need v caps weights run a b e join c =
      let p = problem file in
      let left = p.demand t - output p t (thrifty p t (has out)) in
      let n : need ≡ left = e ∙ ap (λ (z : ℕ). p.demand t - z) (thrifty_output p t r (has out) run) in
      subst (λ (u : ℕ). LeastCover (complement (decided p t (has out))) (p.capacity t) (weight_of p t) u left v) (sym file.filed.units_are)
      (subst (λ (z : ℕ). LeastCover (complement (decided p t (has out))) (p.capacity t) (weight_of p t) file.layout.units z v) n
      (least_free (complement (has both)) (complement (decided p t (has out))) (p.capacity t) (weight_of p t) file.layout.units need v
      (λ i d. thrifty_decided p t r (has out) run both out refl join i (omega arith))
      (least_agree (complement (has both)) (entry caps) (p.capacity t) (entry weights) (weight_of p t) file.layout.units need v a.holds b.holds c)))

  -- the number of the thrifty units fits
  pub thrifty_fits : (r : ℕ) → ThriftyRun (problem file) t (has out) r → r < SETS
  thrifty_fits r run = thrifty_small (problem file) t r (has out) run few

  -- with their score the least weight is the least score
  pub score_least : (thrifty least cost s r : ℕ) → ThriftyRun (problem file) t (has out) thrifty → t < file.layout.weeks
      → LeastWeight (problem file) t (has out) least → least < UNCOVERED → cost ≡ full_cost (problem file) t thrifty → s ≡ scored cost thrifty
      → r ≡ s + least → LeastScore (problem file) t (has out) r
  unfolding score_of
  score_least n least cost s r run h w low ec es er =
      let p = problem file in
      let sum : base p SCALE power t (has out) (tie_small p t few) + least ≡ r = omega (arith, base_score p t few (has out) n run) in
      let reached = subst (Scored p t (has out)) sum (weight_reached p t few (has out) least w low) in
      record {
        most = omega (arith, reached.score, run_small file t h reached.run, number_small p t few reached.run reached.serves.run.units);
        reached = λ _. reached;
        least = λ q a. omega (arith, weight_below p t few (has out) least w q a, sum);
      }

  -- without OFF costs it is the least score by itself
  pub score_plain : (least : ℕ) → t < file.layout.weeks → LeastWeight (problem file) t (has out) least → least < UNCOVERED → file.layout.pairs ≤ file.layout.offs
      → LeastScore (problem file) t (has out) least
  score_plain least h w low none =
      score_least 0 least 0 0 least (thrifty_none file t (has out) none) h w low (full_nobody file t none) refl (omega arith)

  -- or stands for none
  pub score_none : (least : ℕ) → LeastWeight (problem file) t (has out) least → UNCOVERED ≤ least → LeastScore (problem file) t (has out) UNCOVERED
  score_none least w high = record {
    most = omega arith;
    reached = λ h. absurd (omega arith);
    least = λ q a. omega (arith, weight_below (problem file) t few (has out) least w q a);
  }

  module _ (v : ℕ) (h : t < file.layout.weeks) (m : LeastScore (problem file) t (has out) v) where
    -- the cheapest run
    pub found_run : (r : ℕ) → v < UNCOVERED → r ≡ number_in v → Cheapest (problem file) t (has out) r
    found_run r b e = subst (Cheapest (problem file) t (has out)) (sym e) (least_tells (problem file) t few (has out) v m b).0

    -- its cost, without what the units out would cost OFF
    pub found_run_cost : (r cost off c : ℕ) → v < UNCOVERED → r ≡ number_in v → cost ≡ cost_in v → off ≡ off_cost (problem file) t (has out)
        → c ≡ cost - off → c ≡ run_cost (problem file) t (has out) r
    found_run_cost r cost off c b er ec eo e =
        let told = (least_tells (problem file) t few (has out) v m b).1.1 in
        omega (arith, told, ap (run_cost (problem file) t (has out)) er)

    -- or that there is none
    pub found_none : UNCOVERED ≤ v → NoRun (problem file) t (has out)
    found_none b = least_none_left (problem file) t few (has out) v (λ q s. omega (arith, run_small file t h q)) m b

    -- either way the score tells the least cost
    pub found_cost : (c : ℕ) → c ≡ cost_in v → c ≡ full_least (problem file) t (has out)
    found_cost c e = e ∙ by (dec_lt v UNCOVERED)
      where
        by : Dec (v < UNCOVERED) → cost_in v ≡ full_least (problem file) t (has out)
        by (yes b) =
            (least_tells (problem file) t few (has out) v m b).1.0
            ∙ sym (full_of (problem file) t (has out) (number_in v) (found_run (number_in v) b refl))
        by (no b) =
            let u : UNCOVERED ≤ v = omega arith in
            omega (arith, m.most, full_none (problem file) t (has out) (found_none u))

    -- which fits a word of 32 bits
    pub cost_small : (c : ℕ) → c ≡ cost_in v → c ≤ NO_RUN
    cost_small c e = omega (arith, m.most)

-- a week's least cost is never more than what stands for none
pub least_small : (file : File) (t : ℕ) → t < file.layout.weeks → (out : NumSet) → full_least (problem file) t out ≤ NO_RUN
least_small file t h out = full_bounded (problem file) t out (λ q s. omega (arith, run_small file t h q))
