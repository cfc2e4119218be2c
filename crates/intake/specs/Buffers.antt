-- The planning program's input with buffers of any size: its verdict, what is told, and the text. The program's own sizes make the
-- verdict that of document 01 (ProgramLaws).
-- Assumes nothing.
use Rattle.std.specs.Prelude.{ℕ, ◌≡◌, List, length, leb}
use Rattle.sums.specs.Logic.{if}
use Rattle.model.specs.Words.{problem_of}
use Rattle.model.specs.Verdict.{Verdict, refused, and_then}
use Rattle.model.specs.Bytes.{bytes_verdict}
use Rattle.model.specs.Refusal.{run_verdict}
use Rattle.model.specs.Asks.{ask_count, Outcome}
use Rattle.model.specs.Program.{input_file, input_asks, Planned, planned_by}
use Rattle.model.specs.Lines.{printed, Written}

-- 17 for more than 32,768 bytes; 16 for bytes that are no words, of which 8,192 hold all that are left; then the run's verdict
unfoldable pub input_verdict : List ℕ → (table answers scratch : ℕ) → Verdict
unfolding bytes_verdict and_then run_verdict input_file input_asks
input_verdict bs table answers scratch =
    if (leb (length bs) 32768)
    (and_then (bytes_verdict (length bs) 8192) (run_verdict (input_file bs) (input_asks bs) table answers scratch))
    (refused 17 0)

-- what is told is by the verdict, and the outcome is that of a run on the input's file and asks
pub record RanInput (told : Planned) (bs answers₀ table₀ scratch₀ answers table scratch : List ℕ) : Type 0 where
  pub is : told ≡ planned_by (input_verdict bs (length table₀) (length answers₀) (length scratch₀)) (problem_of (input_file bs)) (ask_count (input_asks bs))
  pub outcome : Outcome (input_verdict bs (length table₀) (length answers₀) (length scratch₀))
      (input_file bs) (input_asks bs) answers₀ table₀ scratch₀ answers table scratch

-- the first r bytes of the text are what is printed for that run
pub record ShownInput (bs answers₀ table₀ scratch₀ answers table scratch text₀ text : List ℕ) (r : ℕ) : Type 0 where
  pub told : Planned
  pub ran : RanInput told bs answers₀ table₀ scratch₀ answers table scratch
  pub shown : Written (printed told answers) text₀ text r
