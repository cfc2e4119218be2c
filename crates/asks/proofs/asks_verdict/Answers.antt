-- `asks::asks_verdict` meets its contract: the number of words first, then word by word.
-- Assumes nothing.
use Rattle.asks.proofs.RefusalLaws.{asks_none, asks_odd, asks_many, asks_each}
use Rattle.asks.proofs.asks_verdict.Goals as goal

pub returns-then-asks-lt1 : goal.returns-then-asks-lt1
returns-then-asks-lt1 c = rw c.at.ensures (search asks_none)

pub returns-then-asks-ne0 : goal.returns-then-asks-ne0
returns-then-asks-ne0 c = rw c.at-then-asks-ne0.ensures (search asks_odd)

pub returns-then-asks-gt64 : goal.returns-then-asks-gt64
returns-then-asks-gt64 c = rw c.at-then-asks-gt64.ensures (search asks_many)

pub returns : goal.returns
returns c = search asks_each
