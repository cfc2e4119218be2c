-- The runs of a schedule: the answer for a week as the run that the scan picks, the rows of all units, and a table of runs filled week by week.
-- Assumes nothing.
use Prim.Native.Nat.{ℕ, ◌+◌, ◌%◌, ◌≤◌, ◌<◌}
use mathlib.Core.Path.{◌≡◌, sym, ◌∙◌, ap, subst, fun_ext}
use mathlib.Core.Bool.{true}
use mathlib.Core.List.{List}
use native.Mathlib.Omega.{arith}
use lib.ListN.{length, get_or, set, replicate}
use borrow.Author.Tests.{lt-ltb, le-ltb}
use Rattle.std.specs.Prelude.{Option, Some, None}
use Rattle.sums.specs.NumSet.{NumSet, has}
use Rattle.sums.proofs.LoopLaws.{place_next}
use Rattle.sums.proofs.NumSetLaws.{zero_has}
use Rattle.sets.specs.Sets.{SETS}
use Rattle.model.specs.Problem.{Problem}
use Rattle.model.specs.Schedule.{out_in}
use Rattle.model.specs.Commitment.{run_cost, Pick, nothing, picked, IsPick, Serves, cheapest_run}
use Rattle.model.proofs.CommitmentLaws.{cheapest_right, cheapest_picked, none_picked, fewer_out}
use Rattle.instance.specs.declared.file.File.{File}
use Rattle.instance.specs.File.{problem}
use Rattle.commitment.specs.declared.BestRun.{BestRun}
use Rattle.commitment.specs.Answers.{Answers}
use Rattle.blame.specs.Placed.{first_units, out_of, run_of, run_at}
use Rattle.blame.proofs.PlacedLaws.{first_next, run_same as cost-same}
use Rattle.bound.specs.Rows.{Rows, RowsDue, RowsWith, RowsOfAll}
use Rattle.bound.specs.Tests.{Permits, RunsOf}
use Rattle.bound.proofs.RowLaws.{rows_none, rows_joined}

-- ---- the answer for a week

module _ (p : Problem) (t out : ℕ) (found : Option BestRun) (a : Answers p t (has out) found) where
  -- no run
  pub run_none : found ≡ None → 0 ≡ run_of (cheapest_run p t (has out))
  unfolding run_of
  run_none e = rw (none_picked p t (has out) (subst (Answers p t (has out)) e a))

  -- the cheapest
  pub run_found : (r : BestRun) → found ≡ Some r → r.number ≡ run_of (cheapest_run p t (has out))
  unfolding run_of
  run_found r e = rw (cheapest_picked p t (has out) r.number (subst (Answers p t (has out)) e a).0)

-- the same units out leave the same run: each run costs the same
pub run_same : (p : Problem) (t : ℕ) (a b : NumSet) → ((i : ℕ) → i < p.units → a i ≡ b i) → cheapest_run p t a ≡ cheapest_run p t b
run_same p t a b same = go (cheapest_run p t a) (cheapest_right p t a)
  where
    there : (r : ℕ) → Serves p t a r → Serves p t b r
    there = fewer_out p t b a (λ i h e. same i h ∙ e)

    back : (r : ℕ) → Serves p t b r → Serves p t a r
    back = fewer_out p t a b (λ i h e. sym (same i h) ∙ e)

    cost : (r : ℕ) → run_cost p t a r ≡ run_cost p t b r
    cost = cost-same p t a b same

    go : (f : Pick) → IsPick p t a f → f ≡ cheapest_run p t b
    go nothing none = sym (none_picked p t b (λ r s. none r (back r s)))
    go (picked r) c = sym (cheapest_picked p t b r (record {
      serves = there r c.serves;
      least = λ q s. omega (arith, c.least q (back q s), cost r, cost q);
      first = λ q s e. omega (arith, c.first q (back q s) e, cost r, cost q);
    }))

-- ---- all units placed

-- none yet
pub placed_none : (p : Problem) (starts : ℕ → ℕ) (rows : List ℕ) → rows ≡ replicate 52 0 → Rows p (out_of p (first_units 0) starts) rows
unfolding first_units
placed_none p starts rows e =
    subst (λ (b : NumSet). Rows p (out_of p b starts) rows) (fun_ext (λ i. zero_has i ∙ sym (le-ltb i 0 (omega arith)))) (rows_none p starts rows e)

-- the next unit is to be placed
pub placed_due : (file : File) (rows : List ℕ) (starts : ℕ → ℕ) (j units : ℕ) → Permits (problem file) starts
    → Rows (problem file) (out_of (problem file) (first_units j) starts) rows → units ≡ file.layout.units → j < units → RowsDue (problem file) rows starts j
placed_due file rows starts j units g h e b =
    let u : j < (problem file).units = omega (arith, file.filed.units_are) in
    record { unit = u; permits = g.each j u; long = h.long; tallies = h.tallies }

-- it is
pub placed_next : (p : Problem) (rows : List ℕ) (starts : ℕ → ℕ) (j : ℕ) (next : List ℕ) → Rows p (out_of p (first_units j) starts) rows
    → RowsWith p rows starts j next → Rows p (out_of p (first_units (j + 1)) starts) next
placed_next p rows starts j next h w =
    subst (λ (b : NumSet). Rows p (out_of p b starts) next) (first_next j) (rows_joined p rows (first_units j) starts j next h w)

-- the rows of all units, by any set of them that has all
pub rows_all : (p : Problem) (rows : List ℕ) (b : NumSet) (starts : ℕ → ℕ) → Rows p (out_of p b starts) rows → ((i : ℕ) → i < p.units → b i ≡ true)
    → RowsOfAll p starts rows
unfolding out_of
rows_all p rows b starts h all =
    record { long = h.long; tallies = h.tallies; sets = λ t m i k. h.sets t m i ∙ rw (all i k) }

-- all of them
pub placed_all : (file : File) (rows : List ℕ) (starts : ℕ → ℕ) (j units : ℕ)
    → Rows (problem file) (out_of (problem file) (first_units j) starts) rows → units ≡ file.layout.units → units ≤ j → RowsOfAll (problem file) starts rows
unfolding first_units
placed_all file rows starts j units h e b =
    rows_all (problem file) rows (first_units j) starts h (λ i k. lt-ltb i j (omega (arith, file.filed.units_are)))

-- ---- a table of runs

-- the first n places of the table hold the cheapest runs of their weeks, with the units of the rows out
pub record RunsTo (p : Problem) (rows : List ℕ) (n : ℕ) (table : List ℕ) : Type 0 where
  pub each : (t : ℕ) → t < n → get_or table t 0 ≡ run_of (cheapest_run p t (has (get_or rows t 0 % SETS)))

-- none yet
pub runs_start : (p : Problem) (rows table : List ℕ) → RunsTo p rows 0 table
runs_start p rows table = record { each = λ t l. absurd (omega arith) }

-- one week more
pub runs_next : (p : Problem) (rows table : List ℕ) (t weeks r : ℕ) → RunsTo p rows t table → length table ≡ 52 → t < weeks → weeks ≤ 52
    → r ≡ run_of (cheapest_run p t (has (get_or rows t 0 % SETS))) → RunsTo p rows (t + 1) (set table t r)
runs_next p rows table t weeks r h long b few e = record {
  each = place_next (λ (q x : ℕ). x ≡ run_of (cheapest_run p q (has (get_or rows q 0 % SETS)))) table t r (omega arith) e h.each;
}

-- all of them
pub runs_ended : (file : File) (rows table : List ℕ) (starts : ℕ → ℕ) (t weeks : ℕ) → RowsOfAll (problem file) starts rows
    → RunsTo (problem file) rows t table → weeks ≡ file.layout.weeks → weeks ≤ t → RunsOf (problem file) starts table
unfolding run_at
runs_ended file rows table starts t weeks g h e b = record {
  each = λ q m.
      let d : q < t = omega (arith, file.filed.weeks_are) in
      h.each q d ∙ ap run_of (run_same (problem file) q (has (get_or rows q 0 % SETS)) (out_in (problem file) starts q) (g.sets q m));
}
