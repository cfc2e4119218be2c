-- The table of prices left: filled a unit at a time, and as a bound of what further units out can pay.
-- Assumes nothing.
use Prim.Native.Nat.{ℕ, ◌+◌, ◌*◌, ◌≤◌, ◌<◌}
use mathlib.Core.Path.{◌≡◌, subst}
use mathlib.Core.Bool.{Bool, true, false}
use mathlib.Core.List.{List}
use mathlib.Core.Logic.{inl, inr}
use native.Mathlib.Nat.{mul-le-mul_right, le_trans, le_refl}
use native.Mathlib.Numerals.{add-one}
use native.Mathlib.Omega.{arith}
use lib.Dec.{leb}
use lib.ListN.{get_or, length, set, replicate}
use borrow.Author.Tests.{leb-true}
use Rattle.sums.specs.Sum.{sum_to}
use Rattle.sums.specs.NumSet.{NumSet, only_in, complement, has}
use Rattle.sums.proofs.NumSetLaws.{sum_over}
use Rattle.sums.proofs.LoopLaws.{zeros_at, place_next}
use Rattle.instance.specs.declared.file.File.{File}
use Rattle.instance.specs.File.{problem}
use Rattle.tables.specs.Tables.{MOST_PRICE, MOST_WEEK_PRICES, price_in, Prices, Priced}
use Rattle.tables.proofs.TableLaws.{price_most}
use Rattle.relaxation.specs.Choosing.{prices_not_out, NoGain, PricesLeft, PricesLeftAtLeast}

-- ---- one unit at a time

-- a unit that is out adds nothing
pub added_out : (a : NumSet) (f : ℕ → ℕ) (i sum : ℕ) (b : Bool) → b ≡ a i → b ≡ true → sum ≡ sum + only_in (complement a) f i
unfolding only_in complement
added_out a f i sum b is e = rw (← is, e) (omega arith)

-- another its price
pub added_in : (a : NumSet) (f : ℕ → ℕ) (i sum v : ℕ) (b : Bool) → b ≡ a i → b ≡ false → v ≡ f i → sum + v ≡ sum + only_in (complement a) f i
unfolding only_in complement
added_in a f i sum v b is e own = rw (← is, e, own)

-- as many prices as units
pub not_out_small : (xs : List ℕ) (t : ℕ) (a : NumSet) (k : ℕ) → Prices xs → prices_not_out (price_in xs) t a k ≤ k * MOST_PRICE
unfolding prices_not_out
not_out_small xs t a k h = sum_over k MOST_PRICE (complement a) (price_in xs t) (λ i l. price_most xs t i h)

-- nothing yet
pub left_start : (u : ℕ → ℕ → ℕ) (t : ℕ) (a : NumSet) → PricesLeft u t a 0 (replicate 17 0)
unfolding prices_not_out sum_to
left_start u t a = record { sums = λ k l. let z : k ≡ 0 = omega arith in rw z (zeros_at 17 0) }

-- a sum of the table is small, with a unit more to come
pub left_fits : (xs table : List ℕ) (t n units : ℕ) (a : NumSet) → Prices xs → PricesLeft (price_in xs) t a n table → n < units → units ≤ 16
    → get_or table n 0 ≤ MOST_WEEK_PRICES
left_fits xs table t n units a h left b few = omega (arith, left.sums n (omega arith), not_out_small xs t a n h)

-- one unit more
pub left_next : (u : ℕ → ℕ → ℕ) (t : ℕ) (a : NumSet) (n units r : ℕ) (table : List ℕ) → PricesLeft u t a n table → length table ≡ 17 → n < units
    → units ≤ 16 → r ≡ get_or table n 0 + only_in (complement a) (u t) n → PricesLeft u t a (n + 1) (set table (n + 1) r)
unfolding prices_not_out sum_to
left_next u t a n units r table left long b few sum = record {
  sums = λ k l. place_next (λ j w. w ≡ prices_not_out u t a j) table (n + 1) r (omega arith) new (λ j m. left.sums j (omega arith)) k (omega arith);
}
  where
    new : r ≡ sum_to (n + 1) (only_in (complement a) (u t))
    new = rw add-one (omega (arith, left.sums n (omega arith)))

-- all of them
pub left_ended : (u : ℕ → ℕ → ℕ) (t : ℕ) (a : NumSet) (n units : ℕ) (table : List ℕ) → PricesLeft u t a n table → n ≤ units → units ≤ n
    → PricesLeft u t a units table
left_ended u t a n units table h l m = let e : n ≡ units = omega arith in subst (λ (k : ℕ). PricesLeft u t a k table) e h

-- ---- as a bound

-- prices that do not pay, by the test that the code makes
pub gain_none : (best left sum value : ℕ) → sum ≡ best + left → leb sum value ≡ true → NoGain best left value
gain_none best left sum value e h = record { why = inr (omega (arith, leb-true sum value h)) }

-- a best so far of 0
pub gain_zero : (best left value : ℕ) → best ≡ 0 → true ≡ true → NoGain best left value
gain_zero best left value e t = record { why = inl e }

-- a place of the table of prices left
left_small : (xs left : List ℕ) (t k n : ℕ) (a : NumSet) → Prices xs → n ≤ 16 → PricesLeft (price_in xs) t a n left → k ≤ n → get_or left k 0 ≤ MOST_WEEK_PRICES
left_small xs left t k n a h few l m =
    omega (arith, l.sums k m, not_out_small xs t a k h, mul-le-mul_right MOST_PRICE (le_trans m few))

-- the last place has all prices
pub left_all : (u : ℕ → ℕ → ℕ) (t n : ℕ) (a : NumSet) (left : List ℕ) → PricesLeft u t a n left → get_or left n 0 ≡ prices_not_out u t a n
left_all u t n a left l = l.sums n (le_refl n)

-- of 16 units at most
pub left_all_small : (file : File) (xs left : List ℕ) (t : ℕ) (a : NumSet) → Priced (problem file) xs → PricesLeft (price_in xs) t a file.layout.units left
    → get_or left file.layout.units 0 ≤ MOST_WEEK_PRICES
left_all_small file xs left t a h s = left_small xs left t file.layout.units file.layout.units a h.prices file.filed.units_most s (le_refl file.layout.units)

-- it bounds the prices of the units not out
pub spare_start : (xs left : List ℕ) (t n out own : ℕ) → Prices xs → n ≤ 16 → PricesLeft (price_in xs) t (has out) n left → own ≡ out
    → PricesLeftAtLeast (price_in xs) t (has own) n left
spare_start xs left t n out own h few l same = rw same (record {
  enough = λ k m. omega (arith, l.sums k m);
  small = λ k m. left_small xs left t k n (has out) h few l m;
})

-- a place of the table
pub spare_small : (u : ℕ → ℕ → ℕ) (t k n : ℕ) (a : NumSet) (left : List ℕ) → PricesLeftAtLeast u t a n left → k ≤ n → get_or left k 0 ≤ MOST_WEEK_PRICES
spare_small u t k n a left h l = h.small k l

-- the place after unit i's
pub spare_next : (u : ℕ → ℕ → ℕ) (t i n : ℕ) (a : NumSet) (left : List ℕ) → PricesLeftAtLeast u t a n left → i < n → get_or left (i + 1) 0 ≤ MOST_WEEK_PRICES
spare_next u t i n a left h l = h.small (i + 1) (omega arith)
