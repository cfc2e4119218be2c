-- `report::put_digits` meets its contract: no digit, the last one, or those before it first. The number of digits left gets smaller.
-- Assumes nothing.
use Rattle.report.proofs.+put_digits.Given as goal

-- the digits that are left
abbrev pub decreases-put_digits : goal.decreases-put_digits
decreases-put_digits l = l.n
