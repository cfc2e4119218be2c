-- `state::indexed` meets its contract: a place that leaves 16 bits is not kept.
-- Assumes nothing.
use Rattle.std.proofs.Common.{le-ltb, lt-ltb}
use Rattle.state.specs.State.{indexed_at}
use Rattle.state.proofs.indexed.Goals as goal

pub returns-then-end-ge-INDEXED : goal.returns-then-end-ge-INDEXED
unfolding indexed_at
returns-then-end-ge-INDEXED c = rw (le-ltb _ _ c.if-end-ge-INDEXED.true)

pub returns : goal.returns
unfolding indexed_at
returns c = rw (lt-ltb _ _ c.if-end-ge-INDEXED.false)
