-- The parts of the table: what a place holds, what a write leaves as it was, and that prices depend on their part alone.
-- Assumes nothing.
use Prim.Native.Nat.{ℕ, ◌+◌, ◌*◌, ◌≤◌, ◌<◌}
use mathlib.Core.Path.{◌≡◌, refl, ◌∙◌, fun_ext}
use mathlib.Core.Bool.{Bool, true, false}
use mathlib.Core.List.{List}
use mathlib.Core.Logic.{◌⊎◌, inl, inr, ⊎_elim}
use native.Mathlib.Decide.{ℕ_discrete, dec_lt}
use native.Mathlib.Omega.{arith}
use lib.Dec.{ltb}
use lib.ListN.{length, get_or, set, replicate, length-set, length-replicate, get_or-eq_default}
use lib.Seq.{get_or-set_same, get_or-set_other}
use borrow.Author.Tests.{lt-ltb, ltb-true}
use Rattle.sums.specs.Logic.{if}
use Rattle.sums.specs.Sum.{sum_to, transposed}
use Rattle.sums.specs.NumSet.{has}
use Rattle.sums.proofs.LoopLaws.{zeros_at, sum_next}
use Rattle.model.specs.Problem.{Problem}
use Rattle.model.specs.Pairs.{apart}
use Rattle.instance.specs.declared.file.File.{File}
use Rattle.instance.specs.File.{problem}
use Rattle.overhaul.specs.Off.{off_weeks}
use Rattle.tables.specs.Tables.{TABLES, PARTNERS, OFFS, START_COSTS, MOST_PRICE, MOST_OFF, price_at, price_in, partners_in, off_in, unit_total}
use Rattle.tables.specs.Tables.{Prices, PartnersOf, Partners, Priced, First, Begins}

-- ---- prices

-- a price at its place
pub place_price : (xs : List ℕ) (k : ℕ) → k < PARTNERS → get_or xs k 0 ≡ price_at xs k
unfolding price_at
place_price xs k h = rw (lt-ltb k PARTNERS h)

-- of unit i in week t
pub price_at_lem : (xs : List ℕ) (t i v : ℕ) → t < 52 → i < 16 → v ≡ get_or xs (t * 16 + i) 0 → v ≡ price_in xs t i
unfolding price_in
price_at_lem xs t i v week unit is = rw (← place_price xs (t * 16 + i) (omega arith)) is

-- it is at most the highest
pub price_most : (xs : List ℕ) (t i : ℕ) → Prices xs → price_in xs t i ≤ MOST_PRICE
unfolding price_in price_at
price_most xs t i h = by (t * 16 + i) (ltb (t * 16 + i) PARTNERS) (ltb-true (t * 16 + i) PARTNERS)
  where
    by : (k : ℕ) (b : Bool) → (b ≡ true → k < PARTNERS) → if b (get_or xs k 0) 0 ≤ MOST_PRICE
    by k true l = h.small k (l refl)
    by k false l = omega arith

pub price_small : (xs : List ℕ) (t i v : ℕ) → t < 52 → i < 16 → Prices xs → v ≡ get_or xs (t * 16 + i) 0 → v ≤ MOST_PRICE
price_small xs t i v week unit h is = omega (arith, h.small (t * 16 + i) (omega arith))

-- tables with the same words for prices have the same prices
pub prices_same : (xs ys : List ℕ) → ((k : ℕ) → k < PARTNERS → get_or ys k 0 ≡ get_or xs k 0) → price_in ys ≡ price_in xs
unfolding price_in price_at
prices_same xs ys same = fun_ext (λ t. fun_ext (λ i. by (t * 16 + i) (ltb (t * 16 + i) PARTNERS) (ltb-true (t * 16 + i) PARTNERS)))
  where
    by : (k : ℕ) (b : Bool) → (b ≡ true → k < PARTNERS) → if b (get_or ys k 0) 0 ≡ if b (get_or xs k 0) 0
    by k true h = same k (h refl)
    by k false h = refl

-- ---- all OFF costs and all prices

-- a unit's OFF cost, and no price yet
pub unit_start : (xs : List ℕ) (i v : ℕ) → v ≡ off_in xs i → v ≡ unit_total xs 0 i
unfolding unit_total sum_to
unit_start xs i v is = omega arith

-- the price of one week more
pub unit_next : (xs : List ℕ) (i t s v r : ℕ) → s ≡ unit_total xs t i → v ≡ price_in xs t i → r ≡ s + v → r ≡ unit_total xs (t + 1) i
unfolding unit_total transposed
unit_next xs i t s v r a b c =
    let z = sum_next (transposed (price_in xs) i) t (sum_to t (transposed (price_in xs) i)) v (sum_to t (transposed (price_in xs) i) + v) refl b refl in
    omega arith

-- of all weeks
pub unit_ended : (xs : List ℕ) (i t n m r : ℕ) → r ≡ unit_total xs t i → t ≤ n → n ≤ t → n ≡ m → r ≡ unit_total xs m i
unit_ended xs i t n m r h a b is = let e : t ≡ m = omega arith in rw e at h

-- ---- words written

-- a word at most b stays so where a number at most b is written
put_most : (xs : List ℕ) (at v b k : ℕ) → v ≤ b → get_or xs k 0 ≤ b → get_or (set xs at v) k 0 ≤ b
put_most xs at v b k m h = by (ℕ_discrete k at) (dec_lt at (length xs))
  where
    by : Dec (k ≡ at) → Dec (at < length xs) → get_or (set xs at v) k 0 ≤ b
    by (yes e) (yes l) = rw e (omega (arith, get_or-set_same xs at v 0 l))
    by (yes e) (no l) =
        let n : length (set xs at v) ≤ k = omega (arith, length-set xs at v) in
        omega (arith, get_or-eq_default (set xs at v) 0 n)
    by (no e) l = omega (arith, get_or-set_other xs at k v 0 e)

-- a price written
pub prices_put : (xs : List ℕ) (k v : ℕ) → Prices xs → v ≤ MOST_PRICE → Prices (set xs k v)
prices_put xs k v h few = record { small = λ n l. put_most xs k v MOST_PRICE n few (h.small n l) }

-- those of one unit more
pub partners_next : (p : Problem) (xs : List ℕ) (n u v : ℕ) → Partners p n xs → length xs ≡ TABLES → n < u → u ≤ 16
    → ((j : ℕ) → has v j ≡ apart p n j) → Partners p (n + 1) (set xs (PARTNERS + n) v)
unfolding partners_in
partners_next p xs n u v h long l few e = record { each = λ i m. by i m (ℕ_discrete i n) }
  where
    by : (i : ℕ) → i < n + 1 → Dec (i ≡ n) → PartnersOf p i (get_or (set xs (PARTNERS + n) v) (PARTNERS + i) 0)
    by i m (yes q) = rw (q, get_or-set_same xs (PARTNERS + n) v 0 (omega arith)) (record { sets = e })
    by i m (no q) = rw (get_or-set_other xs (PARTNERS + n) (PARTNERS + i) v 0 (λ z. omega arith)) (h.each i (omega arith))

-- a word of another part
pub partners_beside : (p : Problem) (xs : List ℕ) (n k v : ℕ) → Partners p n xs → n ≤ 16 → (k < PARTNERS) ⊎ (OFFS ≤ k) → Partners p n (set xs k v)
unfolding partners_in
partners_beside p xs n k v h few other = record {
  each = λ i m. rw (get_or-set_other xs k (PARTNERS + i) v 0 (λ z. ⊎_elim (λ (a : k < PARTNERS). omega arith) (λ (a : OFFS ≤ k). omega arith) other))
      (h.each i m);
}

-- ---- the table of a file before prices are found

-- nothing yet
pub first_start : (p : Problem) → First p 0 (replicate TABLES 0)
first_start p = record {
  long = length-replicate {A = ℕ} TABLES 0;
  partners = record { each = λ i l. absurd (omega arith) };
  offs = record { each = λ i l. absurd (omega arith); small = λ i l. absurd (omega arith) };
  zeros = λ k l. zeros_at TABLES k;
}

-- one unit more
pub first_next : (p : Problem) (xs : List ℕ) (n u v w : ℕ) → First p n xs → n < u → u ≤ 16 → ((j : ℕ) → has v j ≡ apart p n j) → w ≡ off_weeks p n → w ≤ MOST_OFF
    → First p (n + 1) (set (set xs (PARTNERS + n) v) (OFFS + n) w)
unfolding off_in
first_next p xs n u v w h l few e off small = record {
  long = length-set ys (OFFS + n) w ∙ length-set xs (PARTNERS + n) v ∙ h.long;
  partners =
      partners_beside p ys (n + 1) (OFFS + n) w (partners_next p xs n u v h.partners h.long l few e) (omega arith) (inr (omega arith));
  offs = record { each = λ i m. by i m (ℕ_discrete i n); small = λ i m. most i m (ℕ_discrete i n) };
  zeros = λ k m. get_or-set_other ys (OFFS + n) k w 0 (λ z. apart_from k m z (omega arith) (omega arith)) ∙ get_or-set_other xs (PARTNERS + n) k v 0 (λ z. apart_from k m z (omega arith) (omega arith)) ∙ h.zeros k m;
}
  where
    ys : List ℕ
    ys = set xs (PARTNERS + n) v

    apart_from : {a : ℕ} (k : ℕ) → (k < PARTNERS) ⊎ (START_COSTS ≤ k) → k ≡ a → PARTNERS ≤ a → a < START_COSTS → ⊥
    apart_from k (inl m) z b c = omega arith
    apart_from k (inr m) z b c = omega arith

    here : get_or (set ys (OFFS + n) w) (OFFS + n) 0 ≡ w
    here = get_or-set_same ys (OFFS + n) w 0 (omega (arith, length-set xs (PARTNERS + n) v, h.long))

    old : (i : ℕ) → i < n → get_or (set ys (OFFS + n) w) (OFFS + i) 0 ≡ get_or xs (OFFS + i) 0
    old i m =
        get_or-set_other ys (OFFS + n) (OFFS + i) w 0 (λ z. omega arith) ∙ get_or-set_other xs (PARTNERS + n) (OFFS + i) v 0 (λ z. omega arith)

    by : (i : ℕ) → i < n + 1 → Dec (i ≡ n) → get_or (set ys (OFFS + n) w) (OFFS + i) 0 ≡ off_weeks p i
    by i m (yes q) = rw q (here ∙ off)
    by i m (no q) = old i (omega arith) ∙ h.offs.each i (omega arith)

    most : (i : ℕ) → i < n + 1 → Dec (i ≡ n) → get_or (set ys (OFFS + n) w) (OFFS + i) 0 ≤ MOST_OFF
    most i m (yes q) = rw q (omega (arith, here))
    most i m (no q) = omega (arith, old i (omega arith), h.offs.small i (omega arith))

-- all of them
pub first_ended : (file : File) (xs : List ℕ) (n u : ℕ) → First (problem file) n xs → u ≡ file.layout.units → n ≤ u → u ≤ n
    → First (problem file) (problem file).units xs
first_ended file xs n u h is a b = let e : n ≡ (problem file).units = omega (arith, file.filed.units_are) in rw e at h

-- such prices are 0
pub first_priced : (p : Problem) (xs : List ℕ) → First p p.units xs → Priced p xs
first_priced p xs h = record {
  long = h.long;
  prices = record { small = λ k l. omega (arith, h.zeros k (inl l)) };
  partners = h.partners;
  offs = h.offs;
}

-- ---- a table that begins as another

-- one word more behind them
pub begins_put : (n : ℕ) (xs ys : List ℕ) (k v : ℕ) → Begins n xs ys → n ≤ k → Begins n xs (set ys k v)
begins_put n xs ys k v h far = record {
  long = length-set ys k v ∙ h.long;
  same = λ m l. get_or-set_other ys k m v 0 (λ z. omega arith) ∙ h.same m l;
}

-- it has the same prices
pub begins_prices : (n : ℕ) (xs ys : List ℕ) → Begins n xs ys → PARTNERS ≤ n → price_in ys ≡ price_in xs
begins_prices n xs ys h far = prices_same xs ys (λ k l. h.same k (omega arith))

-- so it is priced as the other is
pub begins_priced : (file : File) (n : ℕ) (xs ys : List ℕ) → Begins n xs ys → START_COSTS ≤ n → Priced (problem file) xs
    → Priced (problem file) ys
unfolding partners_in off_in
begins_priced file n xs ys h far priced = record {
  long = h.long;
  prices = record { small = λ k m. rw (h.same k (omega arith)) (priced.prices.small k m) };
  partners = record { each = λ i m. rw (h.same (PARTNERS + i) (omega (arith, few))) (priced.partners.each i m) };
  offs = record {
    each = λ i m. rw (h.same (OFFS + i) (omega (arith, few))) (priced.offs.each i m);
    small = λ i m. rw (h.same (OFFS + i) (omega (arith, few))) (priced.offs.small i m);
  };
}
  where
    few : (problem file).units ≤ 16
    few = omega (arith, file.filed.units_most, file.filed.units_are)
