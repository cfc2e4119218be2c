-- The free plant has the schedules of the problem, for nothing: a dead end at limit 1 there is a dead end at every limit here.
-- Assumes nothing.
use Prim.Native.Nat.{ℕ, ◌+◌, ◌<◌}
use mathlib.Core.Path.{◌≡◌, refl, sym, ◌∙◌, ap}
use mathlib.Core.Bool.{Bool, true, false, not}
use native.Mathlib.Nat.{le_trans, zero-add}
use native.Mathlib.Omega.{arith}
use Rattle.sums.specs.Logic.{if}
use Rattle.sums.specs.Sum.{sum_to, added, transposed, row_sum}
use Rattle.sums.specs.NumSet.{NumSet, only_in, parts, complement, has}
use Rattle.sums.proofs.LogicLaws.{true_false}
use Rattle.sums.proofs.SumLaws.{sum_zero, sum_same}
use Rattle.sums.proofs.NumSetLaws.{sum_subset}
use Rattle.model.specs.Problem.{Problem, Fair}
use Rattle.model.specs.Grid.{States, is_on, is_maint}
use Rattle.model.specs.Rules.{
  output,
  headcount,
  ok1,
  ok2,
  ok3,
  ok4,
  ok5,
  ok7,
  ok8,
  unit4,
  unit5,
  unit6,
  not_out,
  not_later,
  is_first,
  is_last,
  out_at,
  keeps1,
  keeps2,
  keeps3,
  keeps4,
  keeps5,
  keeps6,
  keeps7,
  keeps8,
  broken,
  charge,
  week_cost,
  cost9,
}
use Rattle.model.specs.Domain.{permitted}
use Rattle.model.specs.Schedule.{Schedule, in_span, out_in, lay_out, Sound, cost}
use Rattle.blame.specs.Closed.{Closed}
use Rattle.blame.specs.Placed.{out_of}
use Rattle.blame.specs.Priced.{priced, price_sum, off_sum, unit_bound, lower_bound, LeastPriced, WeekLeast}
use Rattle.blame.specs.Free.{NoSchedule, freed, span_price, UnitFree, WeekFree}
use Rattle.blame.proofs.BoundLaws.{priced_closed}

-- ---- the same schedules

-- formulas (1) to (8) name no cost
freed_broken : (p : Problem) (x : States) → broken (freed p) x ≡ broken p x
unfolding freed broken keeps1 keeps2 keeps3 keeps4 keeps5 keeps6 keeps7 keeps8 ok1 ok2 ok3 ok4 ok5 ok7 ok8 unit4 unit5 unit6 not_out not_later is_first is_last out_at output headcount
freed_broken p x = refl

-- a schedule is laid out the same
freed_layout : (p : Problem) (s : Schedule) → lay_out (freed p) s ≡ lay_out p s
unfolding freed lay_out out_in
freed_layout p s = refl

module _ (p : Problem) (s : Schedule) where
  -- a sound schedule is one of the free plant
  freed_sound : Sound p s → Sound (freed p) s
  unfolding freed permitted out_in
  freed_sound sound = record {
    schedule = record {
      permits = sound.schedule.permits;
      runs = λ t l. record { units = (sound.schedule.runs t l).units; free = (sound.schedule.runs t l).free };
    };
    keeps = freed_broken p (lay_out (freed p) s) ∙ (rw (freed_layout p s) sound.keeps);
  }

  -- where it costs nothing
  freed_cost : cost (freed p) s ≡ 0
  unfolding cost cost9 week_cost charge freed
  freed_cost =
      sum_zero p.weeks (week_cost (freed p) (lay_out (freed p) s))
      (λ t l. sum_zero p.units (charge (freed p) (lay_out (freed p) s) t)
      (λ i h. nothing (is_maint (lay_out (freed p) s) t i) (is_on (lay_out (freed p) s) t i)))
    where
      nothing : (a b : Bool) → ◌≡◌ {A = ℕ} (if a 0 (if b 0 0)) 0
      nothing true b = refl
      nothing false true = refl
      nothing false false = refl

-- what the laws ask of a problem names no cost
freed_fair : (p : Problem) → Fair p → Fair (freed p)
unfolding freed
freed_fair p fair = record { from_one = fair.from_one; some_weeks = fair.some_weeks; pairs_a = fair.pairs_a; pairs_b = fair.pairs_b }

-- ---- dead ends

-- a dead end of the free plant at limit 1 has no schedule at all: it is one at every limit
pub freed_closed : (p : Problem) (b : NumSet) (starts : ℕ → ℕ) → Closed (freed p) b starts 1 → (limit : ℕ) → Closed p b starts limit
unfolding freed
freed_closed p b starts closed limit = record {
  costs = λ s sound agree. absurd (omega (arith, closed.costs s (freed_sound p s sound) agree, freed_cost p s));
}

-- ---- prices

-- an overhaul costs its prices
freed_priced : (p : Problem) (u : ℕ → ℕ → ℕ) (i s : ℕ) → priced (freed p) u i s ≡ span_price p u i s
unfolding priced span_price freed added transposed parts only_in
freed_priced p u i s =
    sum_same p.weeks (parts (in_span s (p.duration i)) (added (transposed (freed p).maint i) (transposed u i)) (transposed (freed p).off i))
    (only_in (in_span s (p.duration i)) (transposed u i)) (λ t l. ap (λ (n : ℕ). if (in_span s (p.duration i) t) n 0) (zero-add (u t i)))

-- least i is at most what each unit's overhaul costs
freed_units : (p : Problem) (u : ℕ → ℕ → ℕ) (least : ℕ → ℕ) → ((i : ℕ) → i < p.units → UnitFree p u i (least i)) → LeastPriced (freed p) u least
unfolding freed permitted
freed_units p u least h = record { below = λ i s l e. let z = (h i l).below s e in omega (arith, freed_priced p u i s) }

-- a week needs no run: the units not out give at least what any run of them gives
freed_week : (p : Problem) (u : ℕ → ℕ → ℕ) (t : ℕ) (a : NumSet) (v : ℕ) → WeekFree p u t v → WeekLeast (freed p) u t a v
unfolding freed headcount output complement
freed_week p u t a v h = record {
  below = λ out r c more serves.
      let z = h.below out (record { crewed = c.crewed; apart = c.apart })
      (le_trans serves.meets (sum_subset p.units (has r) (complement out) (p.capacity t)
      (λ i l e. free (out i) (λ o. true_false (sym e ∙ serves.run.free i l o))))) in
      omega arith;
}
  where
    free : (b : Bool) → (b ≡ true → ⊥) → not b ≡ true
    free true k = absurd (k refl)
    free false k = refl

-- OFF costs nothing there
freed_offs : (p : Problem) → off_sum (freed p) ≡ 0
unfolding off_sum row_sum freed
freed_offs p = sum_zero p.weeks (row_sum p.units (freed p).off) (λ t l. sum_zero p.units (λ i. 0) (λ i h. refl))

-- prices whose least over overhauls and weeks come to more than all of them together: there is no schedule
pub prices_none : (p : Problem) (u : ℕ → ℕ → ℕ) (least v : ℕ → ℕ) → Fair p → ((i : ℕ) → i < p.units → UnitFree p u i (least i))
    → ((t : ℕ) → t < p.weeks → WeekFree p u t (v t)) → price_sum p u < sum_to p.units least + sum_to p.weeks v → NoSchedule p
unfolding price_sum lower_bound unit_bound freed
prices_none p u least v fair units weeks h = record {
  never = λ s sound.
      absurd (omega (
        arith,
        (freed_closed p (λ i. false) (λ i. 0)
            (priced_closed (freed p) u (λ i. false) (λ i. 0) least v 1 (freed_fair p fair) (freed_units p u least units)
            (λ t l. freed_week p u t (out_of (freed p) (λ i. false) (λ i. 0) t) (v t) (weeks t l)) (omega (arith, freed_offs p)))
            (cost p s + 1)).costs s sound (λ i l e. absurd (true_false (sym e))),
      ));
}
