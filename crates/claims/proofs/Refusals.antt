-- EVERY REFUSAL: the rows are computed, group by group; the laws on long input and on refused runs are read off the definitions.
-- Assumes nothing.
use Prim.Native.Nat.{ℕ, ◌%◌}
use mathlib.Core.Path.{◌≡◌, refl, sym, ◌∙◌, ap}
use mathlib.Core.List.{List, [], ◌∷◌, flatten}
use native.Mathlib.Omega.{arith}
use lib.ListN.{length, get_or}
use borrow.Author.Tests.{le-leb, lt-leb, eq-eqb}
use Rattle.sums.specs.Sum.{sum_to, counts_one}
use Rattle.sums.specs.Range.{all_to, all_table, some_to, first_to, list_to}
use Rattle.sums.specs.NumSet.{only_in}
use Rattle.model.specs.Grid.{is_on, is_maint, cell}
use Rattle.model.specs.Rules.{output, headcount, broken, cost9}
use Rattle.model.specs.Words.{◌∶◌, kind_of, value_of, kind_at, value_at, layout_for, layout_of, problem_of}
use Rattle.model.specs.Verdict.{Verdict, accepted, refused}
use Rattle.model.specs.Bytes.{words_to, bytes_verdict, file_end}
use Rattle.model.specs.Reading.{pair_fault, read_of}
use Rattle.model.specs.Refusal.{asks_verdict, memory_verdict, run_verdict}
use Rattle.model.specs.Prefix.{space_bound}
use Rattle.model.specs.Sizing.{sizing_of}
use Rattle.model.specs.Drawing.{draw_verdict}
use Rattle.model.specs.Judgement.{judge_of, judge_input}
use Rattle.model.specs.Program.{program_verdict}
use Rattle.model.proofs.ReadingLaws.{refused_not}
use Rattle.claims.specs.Files.{file_a}
use Rattle.claims.specs.Cases.{bytes_of, Each, ask_pair}
use Rattle.claims.specs.FileRefusals.{kind_rows, off_rows, range_rows, window_rows, pair_rows, fifth_rows, end_rows}
use Rattle.claims.specs.Refusals.{ask_rows, lent_for, memory_rows, large_rows, run_rows, grid_rows, formula_rows, warm_grid_rows, bytes_rows, draw_rows, input_rows, judge_rows, LongInput, ReadInput, size_rows, sizing_rows, RefusedRun, NoCause, Refusals}
use Rattle.claims.proofs.CaseLaws.{each_of}

-- ---- files

kinds : Each read_of kind_rows
unfolding read_of kind_of value_of kind_at value_at layout_of
kinds = each_of read_of kind_rows refl

offs : Each read_of off_rows
unfolding read_of kind_of value_of kind_at value_at layout_of
offs = each_of read_of off_rows refl

ranges : Each read_of range_rows
unfolding read_of kind_of value_of kind_at value_at layout_of
ranges = each_of read_of range_rows refl

windows : Each read_of window_rows
unfolding read_of kind_of value_of kind_at value_at layout_of
windows = each_of read_of window_rows refl

pairs : Each read_of pair_rows
unfolding read_of kind_of value_of kind_at value_at layout_of
pairs = each_of read_of pair_rows refl

ends : Each read_of end_rows
unfolding read_of kind_of value_of kind_at value_at layout_of
ends = each_of read_of end_rows refl

fifth : Each (λ w. pair_fault (layout_for 1 16 0) w.0 34 w.1) fifth_rows
unfolding pair_fault layout_for
fifth = each_of (λ w. pair_fault (layout_for 1 16 0) w.0 34 w.1) fifth_rows refl

-- ---- asks and lent memory

asked : Each asks_verdict ask_rows
unfolding asks_verdict kind_of value_of kind_at value_at flatten
asked = each_of asks_verdict ask_rows refl

lent : Each (lent_for file_a 2) memory_rows
unfolding memory_verdict problem_of layout_of value_of value_at
lent = each_of (lent_for file_a 2) memory_rows refl

large : Each (lent_for (1 ∶ 52 ∷ 2 ∶ 16 ∷ []) 32) large_rows
unfolding memory_verdict problem_of layout_of value_of value_at
large = each_of (lent_for (1 ∶ 52 ∷ 2 ∶ 16 ∷ []) 32) large_rows refl

runs : Each (λ r. run_verdict r.0 r.1 r.2 r.3 r.4) run_rows
unfolding run_verdict read_of problem_of layout_of kind_of value_of kind_at value_at flatten
runs = each_of (λ r. run_verdict r.0 r.1 r.2 r.3 r.4) run_rows refl

-- ---- grids

grids : Each (λ j. judge_of j.0 j.1) grid_rows
unfolding judge_of read_of problem_of layout_of kind_of value_of kind_at value_at sum_to counts_one all_to all_table some_to only_in is_on is_maint cell output headcount broken cost9
grids = each_of (λ j. judge_of j.0 j.1) grid_rows refl

formulas : Each (λ j. judge_of j.0 j.1) formula_rows
unfolding judge_of read_of problem_of layout_of kind_of value_of kind_at value_at sum_to counts_one all_to all_table some_to only_in is_on is_maint cell output headcount broken cost9
formulas = each_of (λ j. judge_of j.0 j.1) formula_rows refl

warm_grids : Each (λ j. judge_of j.0 j.1) warm_grid_rows
unfolding judge_of read_of problem_of layout_of kind_of value_of kind_at value_at sum_to counts_one all_to all_table some_to only_in is_on is_maint cell output headcount broken cost9
warm_grids = each_of (λ j. judge_of j.0 j.1) warm_grid_rows refl

-- ---- bytes

loads : Each (λ b. bytes_verdict b.0 b.1) bytes_rows
unfolding bytes_verdict
loads = each_of (λ b. bytes_verdict b.0 b.1) bytes_rows refl

drawings : Each (λ d. draw_verdict d.0 d.1) draw_rows
unfolding draw_verdict read_of problem_of layout_of kind_of value_of kind_at value_at
drawings = each_of (λ d. draw_verdict d.0 d.1) draw_rows refl

inputs : Each program_verdict input_rows
unfolding program_verdict words_to list_to file_end some_to first_to read_of problem_of layout_of kind_of value_of kind_at value_at flatten bytes_of
inputs = each_of program_verdict input_rows refl

judged_inputs : Each judge_input judge_rows
unfolding judge_input words_to list_to file_end some_to first_to judge_of read_of problem_of layout_of kind_of value_of kind_at value_at sum_to counts_one all_to all_table only_in is_on is_maint cell output headcount broken cost9
judged_inputs = each_of judge_input judge_rows refl

long_input : LongInput
unfolding program_verdict judge_input
long_input bs h = (rw (lt-leb (length bs) 32768 h), rw (lt-leb (length bs) 32768 h))

read_input : ReadInput
unfolding program_verdict judge_input
read_input bs h e = (rw (le-leb (length bs) 32768 h, eq-eqb (length bs % 4) 0 e), rw (le-leb (length bs) 32768 h))

-- ---- the sizing figure

sizes : Each (λ s. space_bound (problem_of (1 ∶ s.0 ∷ 2 ∶ s.1 ∷ []))) size_rows
unfolding space_bound sum_to problem_of layout_of value_of value_at
sizes = each_of (λ s. space_bound (problem_of (1 ∶ s.0 ∷ 2 ∶ s.1 ∷ []))) size_rows refl

sizings : Each sizing_of sizing_rows
unfolding sizing_of read_of space_bound sum_to problem_of layout_of kind_of value_of kind_at value_at
sizings = each_of sizing_of sizing_rows refl

-- ---- refused runs

-- the number and the place of a refusal
number_of : Verdict → ℕ
number_of accepted = 0
number_of (refused number place) = number

place_of : Verdict → ℕ
place_of accepted = 0
place_of (refused number place) = place

other_word : {a b : ℕ} → (a ≡ b → ⊥) → ◌≡◌ {A = List ℕ} (a ∷ []) (b ∷ []) → ⊥
other_word h e = h (ap (λ (l : List ℕ). get_or l 0 0) e)

verdict_none : run_verdict file_a [] 1 1 1 ≡ refused 8 0
unfolding run_verdict read_of kind_of value_of kind_at value_at layout_of
verdict_none = refl

refused_run : RefusedRun
unfolding number_of place_of
refused_run = (
  record { told = sym verdict_none; outcome = (refl, refl, refl) },
  (λ r. other_word (λ e. omega arith) r.outcome.0),
  (λ r. other_word (λ e. omega arith) r.outcome.1),
  (λ r. other_word (λ e. omega arith) r.outcome.2),
  (λ r. let e = ap number_of (r.told ∙ verdict_none) in absurd (omega arith)),
  (λ r. let e = ap place_of (r.told ∙ verdict_none) in absurd (omega arith)),
  (λ r. refused_not 8 0 (sym (r.told ∙ verdict_none))),
)

verdict_A : run_verdict file_a ask_pair 64 18 4 ≡ accepted
unfolding run_verdict read_of problem_of kind_of value_of kind_at value_at layout_of
verdict_A = refl

no_cause : NoCause
no_cause number place answers₀ table₀ scratch₀ answers table scratch a t s r =
    refused_not number place (r.told ∙ rw (a, t, s) verdict_A)

pub refusals : Refusals
refusals = (
  kinds,
  offs,
  ranges,
  windows,
  pairs,
  ends,
  fifth,
  asked,
  lent,
  large,
  runs,
  grids,
  formulas,
  warm_grids,
  loads,
  drawings,
  inputs,
  judged_inputs,
  long_input,
  read_input,
  sizes,
  sizings,
  refused_run,
  no_cause,
)
