-- The costs of a list of queries: of one query, of those so far, and the whole call.
-- Assumes nothing.
use Prim.Native.Nat.{ℕ, ◌+◌, ◌-◌, ◌/◌, ◌%◌, ◌≤◌, ◌<◌}
use mathlib.Core.Path.{◌≡◌, refl}
use mathlib.Core.List.{List, ◌++◌}
use lib.ListN.{length, get_or, set, drop}
use borrow.Author.Tests.{le-leb, lt-leb}
use Rattle.sums.specs.NumSet.{has}
use Rattle.sums.specs.Range.{list_to}
use Rattle.sums.proofs.LoopLaws.{list_next, list_ended}
use Rattle.model.specs.Problem.{Problem}
use Rattle.model.specs.Commitment.{least_cost, NO_RUN}
use Rattle.model.specs.Verdict.{accepted, refused}
use Rattle.model.specs.Reading.{read_of}
use Rattle.sets.specs.Sets.{SETS}
use Rattle.instance.specs.declared.file.File.{File}
use Rattle.instance.specs.File.{problem}
use Rattle.quotes.specs.Quotes.{query_cost, cost_at, costs_verdict, costs_into}
use Rattle.quotes.proofs.QuoteLaws.{among_zero, among_beyond, among_in}

-- ---- one query

module _ (file : File) (query week : ℕ) (is : week ≡ query / SETS) where
  -- there is no week 0
  pub query_zero : week ≡ 0 → NO_RUN ≡ query_cost (problem file) query
  unfolding query_cost
  query_zero e = rw (← is, among_zero (problem file).weeks week e)

  -- nor one past the last
  pub query_beyond : file.layout.weeks < week → NO_RUN ≡ query_cost (problem file) query
  unfolding query_cost
  query_beyond h = rw (← is, among_beyond (problem file).weeks week (rw file.filed.weeks_are h))

  -- a week of the file
  pub query_some : (r : ℕ) → (week ≡ 0 → ⊥) → week ≤ file.layout.weeks → r ≡ least_cost (problem file) (week - 1) (has (query % SETS))
      → r ≡ query_cost (problem file) query
  unfolding query_cost
  query_some r z h e = rw (← is, among_in (problem file).weeks week z (rw file.filed.weeks_are h)) e

-- ---- the list

-- one more
pub costs_next : (p : Problem) (qs d l : List ℕ) (n k v : ℕ) → l ≡ list_to k (cost_at p qs) ++ drop k d → k < n → n ≤ length d
    → v ≡ query_cost p (get_or qs k 0) → set l k v ≡ list_to (k + 1) (cost_at p qs) ++ drop (k + 1) d
unfolding cost_at
costs_next p qs d l n k v e h m is = list_next (cost_at p qs) d l n k v e h m is

-- all of them
pub costs_ended : (p : Problem) (qs d l : List ℕ) (k : ℕ) → l ≡ list_to k (cost_at p qs) ++ drop k d → k ≤ length qs → length qs ≤ k
    → l ≡ costs_into accepted p qs d
unfolding costs_into
costs_ended p qs d l k e h m = list_ended (cost_at p qs) d l k (length qs) e h m

-- ---- the call

module _ (ws : List ℕ) where
  -- the file's refusal
  pub costs_refused : (number place asked lent : ℕ) → refused number place ≡ read_of ws → refused number place ≡ costs_verdict ws asked lent
  unfolding costs_verdict
  costs_refused number place asked lent said = rw (← said)

  module _ (passed : accepted ≡ read_of ws) where
    -- too few words are lent
    pub costs_short : (asked lent : ℕ) → lent < asked → refused 17 0 ≡ costs_verdict ws asked lent
    unfolding costs_verdict
    costs_short asked lent h = rw (← passed, lt-leb asked lent h)

    -- enough are
    pub costs_all : (asked lent : ℕ) → asked ≤ lent → accepted ≡ costs_verdict ws asked lent
    unfolding costs_verdict
    costs_all asked lent h = rw (← passed, le-leb asked lent h)

-- a refused call changes nothing
pub costs_kept : (number place : ℕ) (p : Problem) (qs d : List ℕ) → d ≡ costs_into (refused number place) p qs d
unfolding costs_into
costs_kept number place p qs d = refl
