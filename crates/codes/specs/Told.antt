-- Answers as document 01 gives them, case by case, whatever type tells a refusal's number and place.
-- Assumes nothing.
use Rattle.std.specs.Prelude.{ℕ, ⊤, Option, Result, Ok, Err}
use Rattle.model.specs.Verdict.{Verdict, accepted, refused, Figure, gives, refused_figure}
use Rattle.model.specs.Judgement as model
use Rattle.decoder.specs.declared.faults.Refusal.{Refusal}
use Rattle.decoder.specs.Answers.{number_of}
use Rattle.checker.specs.declared.Judgement.{Judgement}
use Rattle.checker.specs.Answers.{judged_of}
use Rattle.quotes.specs.Quotes.{Quoted, refused_quote}
use Rattle.quotes.specs.declared.Quote.{Quote}
use Rattle.quotes.specs.Answers.{quote_of}

-- the number and the place of a refusal of this repository
abbrev pub number_in : Refusal → ℕ
number_in r = number_of r.fault

abbrev pub place_in : Refusal → ℕ
place_in r = r.place

-- those of two plain numbers
abbrev pub first_of : ℕ × ℕ → ℕ
first_of r = r.0

abbrev pub second_of : ℕ × ℕ → ℕ
second_of r = r.1

-- accepted, or the refusal's number and place
abbrev pub verdict_told : {R : Type 0} → (number place : R → ℕ) → Result ⊤ R → Verdict
verdict_told number place (Ok _) = accepted
verdict_told number place (Err r) = refused (number r) (place r)

-- the number given, or the refusal's number and place
abbrev pub figure_told : {R : Type 0} → (number place : R → ℕ) → Result ℕ R → Figure
figure_told number place (Ok n) = gives n
figure_told number place (Err r) = refused_figure (number r) (place r)

-- sound at a cost, or the formula broken, or the refusal's number and place
abbrev pub judgement_told : {R : Type 0} → (number place : R → ℕ) → Result Judgement R → model.Judgement
judgement_told number place (Ok j) = judged_of j
judgement_told number place (Err r) = model.refused_grid (number r) (place r)

-- nothing, or a number and its cost, or the refusal's number and place
abbrev pub quote_told : {R : Type 0} → (number place : R → ℕ) → Result (Option Quote) R → Quoted
quote_told number place (Ok q) = quote_of q
quote_told number place (Err r) = refused_quote (number r) (place r)
