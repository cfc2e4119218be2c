-- `cover::walk` meets its contract, by recursion on the number of units left: each cut leaves the choice as it is, and each turn is the definition's.
-- Assumes nothing.
use Rattle.cover.proofs.+walk.Given as goal

abbrev pub decreases-walk : goal.decreases-walk
decreases-walk l = l.k
