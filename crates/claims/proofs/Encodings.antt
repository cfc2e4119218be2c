-- Words, bytes and lines as the definitions give them, computed.
-- Assumes nothing.
use Prim.Native.Nat.{ℕ}
use mathlib.Core.Path.{◌≡◌, refl, ◌∙◌, ap}
use mathlib.Core.List.{List, ◌++◌, flatten}
use native.Mathlib.Omega.{arith}
use lib.ListN.{length, get_or, replicate, length-append, length-replicate}
use Rattle.sums.specs.Range.{some_to, first_to, list_to}
use Rattle.sums.specs.NumSet.{has}
use Rattle.model.specs.Problem.{Problem}
use Rattle.model.specs.Words.{kind_of, value_of, kind_at, value_at, layout_of, problem_of}
use Rattle.model.specs.Verdict.{refused}
use Rattle.model.specs.Bytes.{words_to, load_of, loaded_into, file_end}
use Rattle.model.specs.Reading.{read_of}
use Rattle.model.specs.Schedule.{in_span, out_in, lay_out}
use Rattle.model.specs.Drawing.{drawn, draw_verdict, drawn_into}
use Rattle.model.specs.Nogood.{nogoods_words}
use Rattle.model.specs.Answer.{blocks_of}
use Rattle.model.specs.Asks.{ask_count}
use Rattle.model.specs.Program.{input_file, input_asks, program_verdict, planned_by}
use Rattle.model.specs.Lines.{printed, judgement_text}
use Rattle.claims.specs.Files.{file_a}
use Rattle.claims.specs.Cases.{Each, ask_bytes, alike, bytes_of}
use Rattle.claims.specs.Encodings.{word_rows, figure_rows, loaded_rows, file_end_rows, split_rows, drawn_rows, drawn_into_rows, drawn_a, block_rows, nogood_rows, line_rows, judged_rows, refused_fifteen, WrittenBytes, PrintedRefusal, told_rows, Encodings}
use Rattle.claims.proofs.CaseLaws.{each_of}

words : Each (λ b. words_to b.0 b.1) word_rows
unfolding words_to list_to
words = each_of (λ b. words_to b.0 b.1) word_rows refl

loads : Each (λ b. load_of b.0 b.1) figure_rows
unfolding load_of
loads = each_of (λ b. load_of b.0 b.1) figure_rows refl

loaded : Each (λ b. loaded_into (load_of b.0 (length b.1)) b.0 b.1) loaded_rows
unfolding load_of loaded_into list_to
loaded = each_of (λ b. loaded_into (load_of b.0 (length b.1)) b.0 b.1) loaded_rows refl

ends : Each file_end file_end_rows
unfolding file_end some_to first_to kind_of
ends = each_of file_end file_end_rows refl

inputs : Each (λ bs. (input_file bs, input_asks bs)) split_rows
unfolding input_file input_asks some_to first_to kind_of list_to
inputs = each_of (λ bs. (input_file bs, input_asks bs)) split_rows refl

drawings : Each (λ d. drawn (problem_of d.0) d.1) drawn_rows
unfolding drawn list_to lay_out out_in in_span has problem_of layout_of value_of value_at
drawings = each_of (λ d. drawn (problem_of d.0) d.1) drawn_rows refl

drawn_into_lem : Each drawn_a drawn_into_rows
unfolding drawn_into draw_verdict read_of list_to lay_out out_in in_span has problem_of layout_of kind_of value_of kind_at value_at
drawn_into_lem = each_of drawn_a drawn_into_rows refl

blocks : Each (blocks_of (problem_of file_a)) block_rows
unfolding blocks_of problem_of layout_of value_of value_at
blocks = each_of (blocks_of (problem_of file_a)) block_rows refl

nogoods : Each nogoods_words nogood_rows
unfolding nogoods_words
nogoods = each_of nogoods_words nogood_rows refl

lines : Each (λ l. printed l.0 l.1) line_rows
unfolding printed
lines = each_of (λ l. printed l.0 l.1) line_rows refl

judged_lines : Each judgement_text judged_rows
unfolding judgement_text
judged_lines = each_of judgement_text judged_rows refl

written_bytes : WrittenBytes
written_bytes = (
  record { inside = omega arith; front = refl; kept = refl },
  (λ w. let e : ◌≡◌ {A = ℕ} 8 9 = ap (λ (l : List ℕ). get_or l 0 0) w.kept in absurd (omega arith)),
  (λ w. let e : ◌≡◌ {A = ℕ} 3 2 = ap (λ (l : List ℕ). get_or l 1 0) w.front in absurd (omega arith)),
  (λ w. let h = w.inside in absurd (omega arith)),
)

verdict_fifteen : program_verdict (bytes_of (alike 15) ++ ask_bytes) ≡ refused 15 0
unfolding program_verdict words_to list_to file_end some_to first_to read_of problem_of layout_of kind_of value_of kind_at value_at flatten bytes_of
verdict_fifteen = refl

text_fifteen : (p : Problem) (asks : ℕ) (ws : List ℕ) → printed (planned_by (refused 15 0) p asks) ws ≡ refused_fifteen
unfolding printed planned_by
text_fifteen p asks ws = refl

printed_refusal : PrintedRefusal
printed_refusal rest = (
  record {
    answers₀ = replicate 2752 0;
    table₀ = replicate 16384 0;
    scratch₀ = replicate 16384 0;
    answers = replicate 2752 0;
    table = replicate 16384 0;
    scratch = replicate 16384 0;
    sizes = (length-replicate {A = ℕ} 2752 0, length-replicate {A = ℕ} 16384 0, length-replicate {A = ℕ} 16384 0);
    outcome = rw verdict_fifteen (refl, refl, refl);
    shown = rw (verdict_fifteen, text_fifteen (problem_of (input_file input)) (ask_count (input_asks input)) (replicate 2752 0))
        (record { inside = let l = length-append refused_fifteen rest in omega arith; front = refl; kept = refl });
  },
  (λ text r h. (rw verdict_fifteen at h.shown).front ∙ text_fifteen (problem_of (input_file input)) (ask_count (input_asks input)) h.answers),
)
  where
    input : List ℕ
    input = bytes_of (alike 15) ++ ask_bytes

told : Each (λ v. planned_by v (problem_of file_a) 2) told_rows
unfolding planned_by problem_of layout_of value_of value_at
told = each_of (λ v. planned_by v (problem_of file_a) 2) told_rows refl

pub encodings : Encodings
encodings = (words, loads, loaded, ends, inputs, drawings, drawn_into_lem, blocks, nogoods, lines, judged_lines, written_bytes, printed_refusal, told)
