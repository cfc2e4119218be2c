-- What a schedule of all units costs, a week at a time.
-- Assumes nothing.
use Prim.Native.Nat.{ℕ, ◌+◌, ◌%◌, ◌≤◌, ◌<◌}
use mathlib.Core.Path.{◌≡◌, ◌∙◌, ap}
use mathlib.Core.List.{List}
use native.Mathlib.Omega.{arith}
use lib.ListN.{get_or}
use Rattle.sums.specs.Sum.{sum_to}
use Rattle.sums.specs.NumSet.{has}
use Rattle.sums.specs.Table.{entry}
use Rattle.sums.proofs.SumLaws.{sum_same}
use Rattle.sums.proofs.NumSetLaws.{pick_agree}
use Rattle.sums.proofs.LoopLaws.{sum_next}
use Rattle.sets.specs.Sets.{SETS}
use Rattle.model.specs.Problem.{Problem}
use Rattle.model.specs.Schedule.{out_in}
use Rattle.model.specs.Commitment.{NO_RUN, out_cost, least_cost}
use Rattle.instance.specs.declared.file.File.{File}
use Rattle.instance.specs.File.{problem}
use Rattle.commitment.specs.declared.Tally.{Tally}
use Rattle.commitment.specs.Tally.{Tallies}
use Rattle.blame.specs.Placed.{week_paid, paid}
use Rattle.blame.proofs.PlacedLaws.{least_same}
use Rattle.bound.specs.Rows.{MOST_OUT, MOST_WEEK, tally_of, RowsOfAll}
use Rattle.bound.proofs.RowLaws.{out_small}

module _ (file : File) (t word : ℕ) (y : Tally) (h : t < file.layout.weeks) (e : y ≡ tally_of word)
    (w : Tallies (problem file) t (tally_of word)) where
  -- a week: the maintenance of the units out, and a run of the others
  pub week_paid_lem : (v r : ℕ) → v ≡ least_cost (problem file) t (has y.out) → r ≡ y.cost.0 + v
      → r ≡ out_cost (problem file) t (has (word % SETS)) + least_cost (problem file) t (has (word % SETS))
  week_paid_lem v r ev er =
      let a : y.cost.0 ≡ out_cost (problem file) t (has (word % SETS)) = ap (λ (x : Tally). x.cost.0) e ∙ w.sum in
      let b : least_cost (problem file) t (has y.out) ≡ least_cost (problem file) t (has (word % SETS))
      = ap (λ (x : Tally). least_cost (problem file) t (has x.out)) e in
      omega arith

  -- both are small
  out_most : y.cost.0 ≤ MOST_OUT
  out_most =
      let a : y.cost.0 ≡ out_cost (problem file) t (has (word % SETS)) = ap (λ (x : Tally). x.cost.0) e ∙ w.sum in
      omega (arith, out_small file (has (word % SETS)) t h)

  -- and fit a word together
  pub paid_fits : (v : ℕ) → v ≤ NO_RUN → y.cost.0 + v < 18446744073709551616
  paid_fits v m = omega (arith, out_most)

  pub paid_most : (v r : ℕ) → v ≤ NO_RUN → r ≡ y.cost.0 + v → r ≤ MOST_WEEK
  paid_most v r m e = omega (arith, out_most)

-- what a week costs with the units of its row out
unfoldable pub row_paid : Problem → List ℕ → ℕ → ℕ
row_paid p rows t = out_cost p t (has (get_or rows t 0 % SETS)) + least_cost p t (has (get_or rows t 0 % SETS))

-- one more
pub paid_more : (p : Problem) (rows : List ℕ) (t s v r : ℕ) → s ≡ sum_to t (row_paid p rows)
    → v ≡ out_cost p t (has (get_or rows t 0 % SETS)) + least_cost p t (has (get_or rows t 0 % SETS)) → r ≡ s + v → r ≡ sum_to (t + 1) (row_paid p rows)
unfolding row_paid
paid_more p rows t s v r hs hv hr = sum_next (row_paid p rows) t s v r hs hv hr

-- all of them
pub paid_ended : (file : File) (rows starts : List ℕ) (t weeks r : ℕ)
    → RowsOfAll (problem file) (entry starts) rows → weeks ≡ file.layout.weeks → t ≤ weeks → weeks ≤ t
    → r ≡ sum_to t (row_paid (problem file) rows) → r ≡ paid (problem file) (out_in (problem file) (entry starts))
unfolding paid week_paid row_paid out_cost
paid_ended file rows starts t weeks r h e a b is =
    let p = problem file in
    let n : t ≡ p.weeks = omega (arith, file.filed.weeks_are) in
    is ∙ ap (λ (k : ℕ). sum_to k (row_paid p rows)) n
    ∙ sum_same p.weeks (row_paid p rows) (week_paid p (out_in p (entry starts))) (λ q m. omega (
      arith,
      pick_agree p.units (out_in p (entry starts) q) (has (get_or rows q 0 % SETS)) (p.maint q) (h.sets q m),
      least_same p q (has (get_or rows q 0 % SETS)) (out_in p (entry starts) q) (h.sets q m),
    ))

-- a row's tally
pub row_tallies : (file : File) (rows : List ℕ) (starts : ℕ → ℕ) (t weeks : ℕ) → RowsOfAll (problem file) starts rows
    → weeks ≡ file.layout.weeks → t < weeks → Tallies (problem file) t (tally_of (get_or rows t 0))
row_tallies file rows starts t weeks h e b = h.tallies t (omega (arith, file.filed.weeks_are))
