-- The numbers that stand for sets of units.
-- Assumes nothing.
use Rattle.std.specs.Prelude.{ℕ}

-- 2 ^ 16: the number of a set of 16 units, as of a run, lies below it
abbrev pub SETS : ℕ
SETS = 65536
