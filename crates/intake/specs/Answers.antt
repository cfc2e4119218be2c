-- What the planning program is told, as document 01 gives it, case by case.
-- Assumes nothing.
use Rattle.std.specs.Prelude.{ℕ, ◌≡◌, List, length, Result, Ok, Err}
use Rattle.model.specs.Words.{problem_of}
use Rattle.model.specs.Refusal.{run_verdict}
use Rattle.model.specs.Asks.{ask_count, Outcome}
use Rattle.model.specs.Program as model
use Rattle.model.specs.Program.{planned_by}
use Rattle.report.specs.Put.{Listed}
use Rattle.decoder.specs.declared.faults.Refusal.{Refusal}
use Rattle.decoder.specs.Answers.{number_of}
use Rattle.intake.specs.declared.Blocks.{Blocks}

-- the numbers of asks, units and weeks, or a refusal's number and place
abbrev pub planned_of : Result Blocks Refusal → model.Planned
planned_of (Ok b) = model.planned b.asks b.units b.weeks
planned_of (Err r) = model.refused_plan (number_of r.fault) r.place

-- a run on a file and asks
pub record RanFile (told : model.Planned) (file asks answers₀ table₀ scratch₀ answers table scratch : List ℕ) : Type 0 where
  pub is : told ≡ planned_by (run_verdict file asks (length table₀) (length answers₀) (length scratch₀)) (problem_of file) (ask_count asks)
  pub outcome : Outcome (run_verdict file asks (length table₀) (length answers₀) (length scratch₀)) file asks answers₀ table₀ scratch₀ answers table scratch

-- the blocks of an answered input stand in so many words of answers
abbrev pub SizedBy : ℕ → Result Blocks Refusal → Type 0
SizedBy words (Ok b) = Listed words b.asks b.units b.weeks
SizedBy words (Err r) = Unit {0}

pub record Sized (words : ℕ) (told : Result Blocks Refusal) : Type 0 where
  pub by : SizedBy words told
