-- Numbers of faults: none is 0.
-- Assumes nothing.
use Rattle.std.proofs.Common.{◌≡◌, false, Option, Some, None, is_some, refl, arith}
use Rattle.decoder.specs.declared.faults.Fault.{Fault}
use Rattle.decoder.specs.declared.faults.Fault.TheVariants.{WrongKind, OutOfRange, LatestBeforeEarliest, BadPair, TooManyPairs, BadEnd, WordsAfterEnd, AskCount, WrongAskKind, NoBudget, GridSize, BadCell, TableSize, AnswersTooShort, ScratchTooShort, UnevenBytes, TooFewWords}
use Rattle.decoder.specs.Answers.{number_of, fault_number}

-- a fault's number is not 0
pub number_some : (f : Fault) → number_of f ≡ 0 → ⊥
number_some WrongKind e = omega arith
number_some OutOfRange e = omega arith
number_some LatestBeforeEarliest e = omega arith
number_some BadPair e = omega arith
number_some TooManyPairs e = omega arith
number_some BadEnd e = omega arith
number_some WordsAfterEnd e = omega arith
number_some AskCount e = omega arith
number_some WrongAskKind e = omega arith
number_some NoBudget e = omega arith
number_some GridSize e = omega arith
number_some BadCell e = omega arith
number_some TableSize e = omega arith
number_some AnswersTooShort e = omega arith
number_some ScratchTooShort e = omega arith
number_some UnevenBytes e = omega arith
number_some TooFewWords e = omega arith

-- 0 stands for none
pub number_none : (f : Option Fault) → is_some f ≡ false → fault_number f ≡ 0
number_none None e = refl
number_none (Some f) e = cc
