-- The answers of this crate's calls as document 01 gives them, case by case.
-- Assumes nothing.
use Rattle.std.specs.Prelude.{ℕ, ⊤, Option, None, Some, Result, Ok, Err}
use Rattle.model.specs.Verdict as model
use Rattle.decoder.specs.declared.faults.Fault.{Fault}
use Rattle.decoder.specs.declared.faults.Fault.TheVariants.{WrongKind, OutOfRange, LatestBeforeEarliest, BadPair, TooManyPairs, BadEnd, WordsAfterEnd, AskCount, WrongAskKind, NoBudget, GridSize, BadCell, TableSize, AnswersTooShort, ScratchTooShort, UnevenBytes, TooFewWords}
use Rattle.decoder.specs.declared.faults.Refusal.{Refusal}

-- a fault's number
abbrev pub number_of : Fault → ℕ
number_of WrongKind = 1
number_of OutOfRange = 2
number_of LatestBeforeEarliest = 3
number_of BadPair = 4
number_of TooManyPairs = 5
number_of BadEnd = 6
number_of WordsAfterEnd = 7
number_of AskCount = 8
number_of WrongAskKind = 9
number_of NoBudget = 10
number_of GridSize = 11
number_of BadCell = 12
number_of TableSize = 13
number_of AnswersTooShort = 14
number_of ScratchTooShort = 15
number_of UnevenBytes = 16
number_of TooFewWords = 17

-- the number of a fault that there may be, 0 for none
abbrev pub fault_number : Option Fault → ℕ
fault_number None = 0
fault_number (Some fault) = number_of fault

-- accepted, or the refusal's number and place
abbrev pub verdict_of : Result ⊤ Refusal → model.Verdict
verdict_of (Ok _) = model.accepted
verdict_of (Err r) = model.refused (number_of r.fault) r.place

-- the number, or the refusal's number and place
abbrev pub figure_of : Result ℕ Refusal → model.Figure
figure_of (Ok n) = model.gives n
figure_of (Err r) = model.refused_figure (number_of r.fault) r.place
