-- A reply as the words of a block, place by place (document 01, "A run of asks").
-- Assumes nothing.
use Rattle.std.specs.Prelude.{ℕ, ◌+◌, ◌-◌, ◌*◌, ◌≤◌, ◌<◌, Bool, true, false, List, ltb}
use Rattle.sums.specs.Logic.{if}
use Rattle.sums.specs.Range.{list_to}
use Rattle.sums.specs.Table.{entry}
use Rattle.lent.specs.Splice.{spliced}
use Rattle.model.specs.declared.Layout.{Layout}
use Rattle.search.specs.declared.Reply.{Reply}
use Rattle.state.specs.declared.Walked.{Walked}
use Rattle.state.specs.declared.Walked.TheVariants.{Dead, Spent}
use Rattle.block.specs.declared.Status.{Status}
use Rattle.block.specs.declared.Status.TheVariants.{Optimal, Infeasible, Incumbent, Unknown}
use Rattle.shape.specs.Shape.{COST_PLACE, START_PLACE, runs_at, mark_at, block_size}

-- the status of a reply: a plan, none, a best before the mark, a mark alone
unfoldable pub status_of : Bool → Walked → Status
status_of true (Dead b) = Optimal
status_of false (Dead b) = Infeasible
status_of true (Spent m) = Incumbent
status_of false (Spent m) = Unknown

-- its number in document 01
unfoldable pub status_number : Status → ℕ
status_number Optimal = 1
status_number Infeasible = 2
status_number Incumbent = 3
status_number Unknown = 4

-- how many starts the mark has
unfoldable pub mark_length : Walked → ℕ
mark_length (Dead b) = 0
mark_length (Spent m) = m

-- word q of the block of a reply, for u units and w weeks; what a status has none of is 0
unfoldable pub block_word : (u w : ℕ) → Reply → ℕ → ℕ
unfolding status_of status_number mark_length
block_word u w r q =
    if (ltb q COST_PLACE) (status_number (status_of r.state.found r.walked))
    (if (ltb q START_PLACE) (if r.state.found r.state.limit.0 0)
    (if (ltb q (runs_at u)) (if r.state.found (entry r.state.best (q - START_PLACE)) 0)
    (if (ltb q (mark_at u w)) (if r.state.found (entry r.runs (q - runs_at u)) 0)
    (if (ltb (q - mark_at u w) (mark_length r.walked)) (entry r.state.mark (q - mark_at u w)) 0))))

-- there is room for the block of ask k, from 0, of a problem with this layout
pub record Placed (l : Layout) (k words : ℕ) : Type 0 where
  pub units : l.units ≤ 16
  pub weeks : l.weeks ≤ 52
  pub few : k < 32
  pub room : k * block_size l.units l.weeks + block_size l.units l.weeks ≤ words

-- answers with a reply's block at ask k's place
unfoldable pub put_at : Layout → (k : ℕ) → Reply → List ℕ → List ℕ
unfolding block_word
put_at l k r d =
    spliced (k * block_size l.units l.weeks) (list_to (block_size l.units l.weeks) (block_word l.units l.weeks r)) d
