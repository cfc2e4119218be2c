-- The answer of this crate's calls as document 01 gives it, case by case.
-- Assumes nothing.
use Rattle.std.specs.Prelude.{Result, Ok, Err}
use Rattle.model.specs.Judgement as model
use Rattle.decoder.specs.declared.faults.Refusal.{Refusal}
use Rattle.decoder.specs.Answers.{number_of}
use Rattle.checker.specs.declared.Judgement.{Judgement}
use Rattle.checker.specs.declared.Judgement.TheVariants.{Sound, Breaks}

-- sound at a cost, or the smallest number among the formulas broken
abbrev pub judged_of : Judgement → model.Judgement
judged_of (Sound cost) = model.sound_at cost
judged_of (Breaks number) = model.breaks number

-- that, or the refusal's number and place
abbrev pub judgement_of : Result Judgement Refusal → model.Judgement
judgement_of (Ok j) = judged_of j
judgement_of (Err r) = model.refused_grid (number_of r.fault) r.place
