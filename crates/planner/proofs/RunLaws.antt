-- A whole run by its verdict: refused, or answered.
-- Assumes nothing.
use Prim.Native.Nat.{ℕ}
use mathlib.Core.Path.{◌≡◌, refl, subst}
use mathlib.Core.List.{List}
use lib.ListN.{length}
use Rattle.model.specs.Words.{problem_of}
use Rattle.model.specs.Verdict.{accepted, refused}
use Rattle.model.specs.Refusal.{run_verdict}
use Rattle.model.specs.Asks.{Answered, Ran}
use Rattle.instance.specs.declared.file.File.{File}
use Rattle.instance.specs.File.{problem}

module _ (ws asks answers table scratch : List ℕ) where
  -- refused: every lent word is as it was
  pub ran_refused : (number place : ℕ) → refused number place ≡ run_verdict ws asks (length table) (length answers) (length scratch)
      → Ran (refused number place) ws asks answers table scratch answers table scratch
  ran_refused number place said = record { told = said; outcome = (refl, refl, refl) }

  -- answered
  pub ran_answered : (answers' table' scratch' : List ℕ) (file : File) → file.words.now ≡ ws → accepted ≡ run_verdict ws asks (length table) (length answers) (length scratch)
      → Answered (problem file) asks answers answers' table' → length table' ≡ length table → Ran accepted ws asks answers table scratch answers' table' scratch'
  ran_answered answers' table' scratch' file same said a long =
      record { told = said; outcome = (subst (λ (w : List ℕ). Answered (problem_of w) asks answers answers' table') same a, long) }
