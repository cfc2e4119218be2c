-- The test at given prices: what overhauls and weeks come to, all prices, and what it shows.
-- Assumes nothing.
use Prim.Native.Nat.{ℕ, ◌+◌, ◌*◌, ◌/◌, ◌≤◌, ◌<◌}
use mathlib.Core.Path.{◌≡◌, refl, sym, ◌∙◌, ap, subst}
use mathlib.Core.Bool.{Bool, true, false}
use mathlib.Core.List.{List}
use native.Mathlib.Nat.{mul-le-mul, div-le_self}
use native.Mathlib.Decide.{ℕ_discrete}
use native.Mathlib.Omega.{arith}
use lib.Dec.{ltb, eqb}
use lib.ListN.{set}
use borrow.Author.Tests.{ltb-true, eq-eqb, ne_eqb}
use Rattle.sums.specs.Logic.{if}
use Rattle.sums.specs.Sum.{sum_to, row_sum}
use Rattle.sums.proofs.LogicLaws.{true_false}
use Rattle.sums.proofs.SumLaws.{sum_same}
use Rattle.sums.proofs.LoopLaws.{sum_next}
use Rattle.model.specs.Problem.{Problem}
use Rattle.model.proofs.FileLaws.{fair}
use Rattle.instance.specs.declared.file.File.{File}
use Rattle.instance.specs.File.{problem}
use Rattle.tables.specs.Tables.{MOST_PRICE, price_in}
use Rattle.blame.specs.Priced.{price_sum}
use Rattle.blame.specs.Free.{UnitFree, WeekFree}
use Rattle.blame.proofs.FreeLaws.{prices_none}
use Rattle.prices.specs.Ranges.{LEVEL, PricedFile, Moved}
use Rattle.prices.proofs.RangeLaws.{moved_start, moved_next}
use Rattle.dual.specs.Made.{UnitAt}
use Rattle.farkas.specs.Choices.{FreeAt}
use Rattle.farkas.specs.Sums.{Summed, ShowsNone}

-- ---- sums of numbers that each hold for their own

pub summed_start : (P : ℕ → ℕ → Type 0) → Summed P 0 0
unfolding sum_to
summed_start P = record { terms = λ i. 0; each = λ i l. absurd (omega arith); sum_is = refl }

-- a function with another value at k
changed : (f : ℕ → ℕ) (k v : ℕ) → ℕ → ℕ
changed f k v i = if (eqb i k) v (f i)

changed_at : (f : ℕ → ℕ) (k v i : ℕ) → i ≡ k → changed f k v i ≡ v
unfolding changed
changed_at f k v i z = ap (λ (b : Bool). if b v (f i)) (eq-eqb i k z)

changed_else : (f : ℕ → ℕ) (k v i : ℕ) → (i ≡ k → ⊥) → changed f k v i ≡ f i
unfolding changed
changed_else f k v i n = ap (λ (b : Bool). if b v (f i)) (ne_eqb i k n)

-- one more
pub summed_next : (P : ℕ → ℕ → Type 0) (k a v r : ℕ) → Summed P k a → P k v → r ≡ a + v → Summed P (k + 1) r
summed_next P k a v r h here e = record {
  terms = changed h.terms k v;
  each = λ i l. by i l (ℕ_discrete i k);
  sum_is =
      sum_next (changed h.terms k v) k a v r
      (h.sum_is ∙ sum_same k h.terms (changed h.terms k v) (λ i l. sym (changed_else h.terms k v i (λ z. omega arith))))
      (sym (changed_at h.terms k v k refl)) e;
}
  where
    by : (i : ℕ) → i < k + 1 → Dec (i ≡ k) → P i (changed h.terms k v i)
    by i l (yes z) = rw (changed_at h.terms k v i z) (subst (λ (n : ℕ). P n v) (sym z) here)
    by i l (no n) = rw (changed_else h.terms k v i n) (h.each i (omega arith))

-- all of them
pub summed_ended : (P : ℕ → ℕ → Type 0) (k n m a : ℕ) → Summed P k a → k ≤ n → n ≤ k → m ≡ n → Summed P m a
summed_ended P k n m a h x y z = subst (λ (i : ℕ). Summed P i a) (omega arith) h

-- ---- prices

-- a week's, all of them
pub row_ended : (f : ℕ → ℕ → ℕ) (t k n r : ℕ) → r ≡ sum_to k (f t) → k ≤ n → n ≤ k → r ≡ row_sum n f t
unfolding row_sum
row_ended f t k n r e a b = e ∙ ap (λ (i : ℕ). sum_to i (f t)) (omega arith)

-- those of all weeks
pub prices_ended : (file : File) (us : List ℕ) (k n r : ℕ) → PricedFile file us → n ≡ file.layout.weeks → r ≡ sum_to k (row_sum file.layout.units (price_in us)) → k ≤ n
    → n ≤ k → r ≡ price_sum (problem file) (price_in us)
unfolding price_sum
prices_ended file us k n r own is e a b =
    let w : k ≡ (problem file).weeks = omega (arith, file.filed.weeks_are) in
    let u : file.layout.units ≡ (problem file).units = sym file.filed.units_are in
    e ∙ ap (λ (i : ℕ). sum_to i (row_sum file.layout.units (price_in us))) w ∙ ap (λ (i : ℕ). sum_to (problem file).weeks (row_sum i (price_in us))) u

-- ---- what a unit and a week ask

pub unit_at : (file : File) (us : List ℕ) (i n : ℕ) → PricedFile file us → n ≡ file.layout.units → i < n → UnitAt file us i
unit_at file us i n own is less = record { unit = omega arith; priced = own.priced }

pub week_at : (file : File) (us : List ℕ) (t n : ℕ) → PricedFile file us → n ≡ file.layout.weeks → t < n → FreeAt file us t
week_at file us t n own is less = record { week = omega arith; priced = own.priced }

-- ---- what the test shows

pub test_none : (file : File) (us : List ℕ) (units weeks all sum : ℕ) → PricedFile file us
    → Summed (UnitFree (problem file) (price_in us)) (problem file).units units → Summed (WeekFree (problem file) (price_in us)) (problem file).weeks weeks
    → all ≡ price_sum (problem file) (price_in us) → sum ≡ units + weeks → ShowsNone (problem file) (ltb all sum)
test_none file us units weeks all sum own a b is total = record {
  none = λ less.
      prices_none (problem file) (price_in us) a.terms b.terms (fair file.words.now file.filed.passed) a.each b.each
      (omega (arith, ltb-true all sum less, a.sum_is, b.sum_is));
}

-- shown
pub none_yes : (p : Problem) (b : Bool) → ShowsNone p b → b ≡ true → ShowsNone p true
none_yes p b h e = record { none = λ z. h.none e }

-- nothing is said
pub none_no : (p : Problem) → ShowsNone p false
none_no p = record { none = λ e. true_false (sym e) }

-- ---- steps

-- a price times a push fits a word, and a step is no longer than the price and 1
pub step_fits : (price magnitude : ℕ) → price ≤ MOST_PRICE → magnitude ≤ LEVEL → price * magnitude < 18446744073709551616
step_fits price magnitude low few = omega (arith, mul-le-mul low few)

pub step_small : (price magnitude shorter : ℕ) → price ≤ MOST_PRICE → magnitude ≤ LEVEL → price * magnitude / 1024 / shorter + 1 ≤ MOST_PRICE + 1
step_small price magnitude shorter low few = omega (arith, mul-le-mul low few, div-le_self (price * magnitude / 1024) shorter)

pub step_word : (price magnitude shorter : ℕ) → price ≤ MOST_PRICE → magnitude ≤ LEVEL → price * magnitude / 1024 / shorter + 1 < 18446744073709551616
step_word price magnitude shorter low few = let h = step_small price magnitude shorter low few in omega arith

-- no price moved yet
pub moved_file : (file : File) (us : List ℕ) → PricedFile file us → Moved us us
moved_file file us own = moved_start us own.priced.prices

-- one price written
pub moved_put : (file : File) (xs ys : List ℕ) (t i n v : ℕ) → Moved xs ys → t < file.layout.weeks → i < n → n ≡ file.layout.units → v ≤ MOST_PRICE
    → Moved xs (set ys (t * 16 + i) v)
moved_put file xs ys t i n v h week unit is low =
    let a = file.filed.weeks_most in moved_next xs ys t i n file.layout.units v h (omega arith) unit is file.filed.units_most low
