-- `memo::slot` meets its contract: a number below 2^32 is below that many, and a share of the entries that is less than 1 is less than all.
-- Assumes nothing.
use Rattle.std.proofs.Common.{ℕ, ◌*◌, ◌/◌, ◌%◌, ◌<◌, mod-lt, mul-lt-mul_of_pos_right, arith, lit<, rules}
use Rattle.memo.proofs.slot.Goals as goal

-- a remainder times the entries is less than the divisor times the entries
share : (a n : ℕ) → 0 < n → a % 4294967296 * n < 4294967296 * n
share a n h = mul-lt-mul_of_pos_right (mod-lt a (lit< tt)) h

share-fits : (a n : ℕ) → 0 < n → n < 4294967296 → a % 4294967296 * n < 18446744073709551616
share-fits a n h l = omega (arith, share a n h)

share-below : (a n : ℕ) → 0 < n → a % 4294967296 * n / 4294967296 < n
share-below a n h = omega (arith, share a n h)

pub overflow_mul-result : goal.overflow_mul-result
overflow_mul-result c = search (rules, share-fits)

pub returns-then-entries-lt4294967296 : goal.returns-then-entries-lt4294967296
returns-then-entries-lt4294967296 c = search share-below
