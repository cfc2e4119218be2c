-- What is quoted for a week and for an overhaul, case by case, and for the file's verdict.
-- Assumes nothing.
use Prim.Native.Nat.{ℕ, ◌-◌, ◌≤◌, ◌<◌}
use mathlib.Core.Path.{◌≡◌, ◌∙◌, subst}
use mathlib.Core.Bool.{true, false}
use mathlib.Core.List.{List}
use native.Mathlib.Omega.{arith}
use lib.Dec.{leb}
use mir.Syntax.{w32}
use mir.Val.{Fits}
use borrow.Author.Tests.{leb-true, le-leb, lt-leb}
use Rattle.std.specs.Prelude.{Option, None, Some}
use Rattle.sums.specs.NumSet.{has}
use Rattle.sums.proofs.LogicLaws.{and_of, and_left, and_right}
use Rattle.model.specs.Domain.{permitted}
use Rattle.model.specs.Plan.{upkeep}
use Rattle.model.specs.Words.{problem_of}
use Rattle.model.specs.Verdict.{refused}
use Rattle.model.specs.Reading.{read_of}
use Rattle.model.proofs.CommitmentLaws.{cheapest_picked, none_picked}
use Rattle.instance.specs.declared.file.File.{File}
use Rattle.instance.specs.File.{problem}
use Rattle.instance.proofs.FiledLaws.{filed}
use Rattle.overhaul.specs.Range.{StartRange}
use Rattle.commitment.specs.declared.BestRun.{BestRun}
use Rattle.commitment.specs.Answers.{Answers}
use Rattle.commitment.proofs.ScoreLaws.{served_small}
use Rattle.quotes.specs.Quotes.{Quoted, none, quoted, refused_quote, quote_with, among, pick_quote, run_quote, start_quote, upkeep_quote}

-- ---- one of 1, .., n

pub among_zero : (n k : ℕ) → k ≡ 0 → among n k ≡ false
unfolding among
among_zero n k e = rw (lt-leb 1 k (omega arith))

pub among_beyond : (n k : ℕ) → n < k → among n k ≡ false
unfolding among
among_beyond n k h = rw (le-leb 1 k (omega arith), lt-leb k n h)

pub among_in : (n k : ℕ) → (k ≡ 0 → ⊥) → k ≤ n → among n k ≡ true
unfolding among
among_in n k z h = let o : 1 ≤ k = omega arith in rw (le-leb 1 k o, le-leb k n h)

pub among_some : (n k : ℕ) → among n k ≡ true → 1 ≤ k
unfolding among
among_some n k e = leb-true 1 k (and_left (leb 1 k) (leb k n) e)

pub among_most : (n k : ℕ) → among n k ≡ true → k ≤ n
unfolding among
among_most n k e = leb-true k n (and_right (leb 1 k) (leb k n) e)

-- ---- a week

module _ (file : File) (week out : ℕ) where
  -- there is no week 0
  pub run_zero : week ≡ 0 → none ≡ run_quote (problem file) week out
  unfolding run_quote
  run_zero e = rw (among_zero (problem file).weeks week e)

  -- nor one past the last
  pub run_beyond : file.layout.weeks < week → none ≡ run_quote (problem file) week out
  unfolding run_quote
  run_beyond h = rw (among_beyond (problem file).weeks week (rw file.filed.weeks_are h))

  module _ (found : Option BestRun) (z : week ≡ 0 → ⊥) (h : week ≤ file.layout.weeks) (a : Answers (problem file) (week - 1) (has out) found) where
    inside : among (problem file).weeks week ≡ true
    inside = among_in (problem file).weeks week z (rw file.filed.weeks_are h)

    -- no run meets the demand
    pub run_none : found ≡ None → none ≡ run_quote (problem file) week out
    unfolding run_quote pick_quote
    run_none e = rw (inside, none_picked (problem file) (week - 1) (has out) (subst (Answers (problem file) (week - 1) (has out)) e a))

    module _ (r : BestRun) (e : found ≡ Some r) where
      -- the cheapest run and its cost
      pub run_some : quoted r.number r.cost.0 ≡ run_quote (problem file) week out
      unfolding run_quote pick_quote
      run_some =
          let b = subst (Answers (problem file) (week - 1) (has out)) e a in
          rw (inside, cheapest_picked (problem file) (week - 1) (has out) r.number b.0, b.1)

      -- which fits a word of 32 bits
      pub run_fits : Fits w32 r.cost.0
      run_fits =
          let b = subst (Answers (problem file) (week - 1) (has out)) e a in
          let d : week - 1 < file.layout.weeks = omega arith in
          omega (arith, b.1, served_small file (week - 1) (has out) d r.number b.0.serves)

-- ---- an overhaul

module _ (file : File) (unit start : ℕ) where
  -- there is no unit 0
  pub over_zero : unit ≡ 0 → none ≡ upkeep_quote (problem file) unit start
  unfolding upkeep_quote
  over_zero e = rw (among_zero (problem file).units unit e)

  -- nor one past the last
  pub over_beyond : file.layout.units < unit → none ≡ upkeep_quote (problem file) unit start
  unfolding upkeep_quote
  over_beyond h = rw (among_beyond (problem file).units unit (rw file.filed.units_are h))

  -- one of the file's
  pub over_some : (q : Quoted) → (unit ≡ 0 → ⊥) → unit ≤ file.layout.units → q ≡ start_quote (problem file) (unit - 1) start
      → q ≡ upkeep_quote (problem file) unit start
  unfolding upkeep_quote
  over_some q z h e = rw (among_in (problem file).units unit z (rw file.filed.units_are h)) e

module _ (ws : List ℕ) (i start first last : ℕ) (range : StartRange (problem_of ws) i first last) where
  -- a start before the first
  pub start_early : start < first → none ≡ start_quote (problem_of ws) i start
  unfolding start_quote
  start_early b = rw (range.exact start, lt-leb first start b)

  module _ (b : first ≤ start) where
    -- after the last
    pub start_late : last < start → none ≡ start_quote (problem_of ws) i start
    unfolding start_quote
    start_late e = rw (range.exact start, le-leb first start b, lt-leb start last e)

    module _ (e : start ≤ last) where
      -- between them
      pub start_permitted : permitted (problem_of ws) i start ≡ true
      start_permitted = range.exact start ∙ and_of (leb first start) (leb start last) (le-leb first start b) (le-leb start last e)

      -- at its cost
      pub start_some : (c : ℕ) → c ≡ upkeep (problem_of ws) i start → quoted start c ≡ start_quote (problem_of ws) i start
      unfolding start_quote
      start_some c q = rw (start_permitted, q)

-- ---- the file's verdict

module _ (ws : List ℕ) where
  -- its refusal
  pub quote_refused : (number place : ℕ) (q : Quoted) → refused number place ≡ read_of ws → refused_quote number place ≡ quote_with (read_of ws) q
  unfolding quote_with
  quote_refused number place q r = rw (← r)

-- what is said of an accepted file
pub quote_said : (file : File) (r q : Quoted) → r ≡ q → r ≡ quote_with (read_of file.words.now) q
unfolding quote_with
quote_said file r q s = rw file.filed.passed s
