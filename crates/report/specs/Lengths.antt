-- The most bytes that the parts of a text take, by the longest of 16 units and 52 weeks with numbers of 21 bytes.
-- Assumes nothing.
use Rattle.std.specs.Prelude.{ℕ}

-- the cost and the starts
abbrev pub STARTS : ℕ
STARTS = 364

-- a schedule: those, and the run numbers
abbrev pub SCHEDULE : ℕ
SCHEDULE = 1460

-- a mark
abbrev pub MARK : ℕ
MARK = 341

-- what an ask is told: a schedule and a mark behind a word
abbrev pub BLOCK : ℕ
BLOCK = 1806

-- a line
abbrev pub LINE : ℕ
LINE = 1831

-- 2 ^ 16: the bytes to be lent, in which the lines of 32 asks have room
abbrev pub TEXT : ℕ
TEXT = 65536
