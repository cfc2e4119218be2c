-- The sums over the units of a week: who may never be out, one unit more put in, and all of them.
-- Assumes nothing.
use Prim.Native.Nat.{ℕ, max, zero, suc, ◌+◌, ◌*◌, ◌≤◌, ◌<◌}
use mathlib.Core.Path.{◌≡◌, refl, sym, ◌∙◌, ap, subst}
use mathlib.Core.Bool.{Bool, true, false, not}
use mathlib.Core.List.{List}
use mathlib.Core.Logic.{◌⊎◌, inl, inr, ⊎_elim}
use native.Mathlib.Nat.{eq-or-lt_of_le}
use native.Mathlib.Decide.{dec_lt}
use native.Mathlib.Omega.{arith}
use lib.ListN.{length, get_or, set, replicate, length-set, length-replicate}
use lib.Seq.{get_or-set_same, get_or-set_other}
use Rattle.sums.specs.Logic.{if}
use Rattle.sums.specs.Sum.{sum_to}
use Rattle.sums.specs.NumSet.{NumSet, only_in, complement, with, has}
use Rattle.sums.specs.Table.{entry}
use Rattle.sums.proofs.LogicLaws.{true_false}
use Rattle.sums.proofs.NumSetLaws.{sum_split, with_back, zero_has}
use Rattle.sums.proofs.LoopLaws.{zeros_at, sum_next}
use Rattle.model.specs.Problem.{Problem}
use Rattle.instance.specs.declared.file.File.{File}
use Rattle.instance.specs.File.{problem}
use Rattle.instance.specs.declared.Kilo.{Kilo}
use Rattle.tables.specs.Tables.{MOST_PRICE, price_in}
use Rattle.farkas.specs.declared.week.SumsWith.{SumsWith}
use Rattle.farkas.specs.Choices.{OPEN, TOP, CAPS, NEVER, SUMS, NeverTo, never_in, SumsTo, FreeAt, NeverDue, OpenPrice, LargerOf, UnitAdded, SumsDue, AtRoot}

-- ---- who may never be out

pub never_start : (p : Problem) (t : ℕ) → NeverTo p t 0 (has 0)
never_start p t = record { short = λ i e. true_false (sym e ∙ zero_has i) }

module _ (file : File) (t all i never : ℕ) where
  -- unit i may never be out
  pub never_more : (wanted given sum r : ℕ) → NeverDue file t all i never → wanted ≡ (problem file).demand t → given ≡ (problem file).capacity t i
      → sum ≡ wanted + given → all < sum → ((k : ℕ) → has r k ≡ with (has never) i k) → NeverTo (problem file) t (i + 1) (has r)
  never_more wanted given sum r due d c s less joins = record {
    short = λ k e. by k (with_back (has never) i k (sym (joins k) ∙ e));
  }
    where
      by : (k : ℕ) → (has never k ≡ true) ⊎ (k ≡ i)
          → sum_to (problem file).units ((problem file).capacity t) < (problem file).demand t + (problem file).capacity t k
      by k (inl h) = due.so_far.short k h
      by k (inr h) = rw h (omega (arith, due.all_is))

  -- it may
  pub never_same : NeverDue file t all i never → NeverTo (problem file) t (i + 1) (has never)
  never_same due = record { short = due.so_far.short }

pub never_due : (file : File) (t all n i never : ℕ) → t < file.layout.weeks → all ≡ sum_to (problem file).units ((problem file).capacity t)
    → n ≡ file.layout.units → i < n → NeverTo (problem file) t i (has never) → NeverDue file t all i never
never_due file t all n i never week is few less so_far = record { week = week; unit = omega arith; all_is = is; so_far = so_far }

pub never_ended : (file : File) (t n i never : ℕ) → n ≡ file.layout.units → i ≤ n → n ≤ i → NeverTo (problem file) t i (has never)
    → NeverTo (problem file) t (problem file).units (has never)
never_ended file t n i never is a b h = record { short = h.short }

-- ---- a unit's price

pub price_never : (never n i price : ℕ) (b : Bool) → n ≡ never → b ≡ has n i → b ≡ true → OpenPrice never i price 0
price_never never n i price b same is e = record {
  out = λ h. refl;
  open_is = λ h. true_false (sym e ∙ is ∙ ap (λ (k : ℕ). has k i) same ∙ h);
  small = omega arith;
}

pub price_open : (never n i price r : ℕ) (b : Bool) → n ≡ never → b ≡ has n i → b ≡ false → r ≡ price → OpenPrice never i price r
price_open never n i price r b same is e v = record {
  out = λ h. true_false (sym h ∙ sym (is ∙ ap (λ (k : ℕ). has k i) same) ∙ e);
  open_is = λ h. v;
  small = omega arith;
}

pub larger_of : (a b r : ℕ) → r ≡ max a b → LargerOf a b r
larger_of a b r e = by (dec_lt a b)
  where
    by : Dec (a < b) → LargerOf a b r
    by (yes l) = record { first = omega (arith, e); second = omega (arith, e); either = inr (omega (arith, e, l)) }
    by (no l) = record { first = omega (arith, e); second = omega (arith, e); either = inl (omega (arith, e, l)) }

-- ---- one unit more

module _ (file : File) (us : List ℕ) (t : ℕ) (xs : List ℕ) (i a b c d : ℕ) (due : SumsDue file us t xs i) (unit : i < file.layout.units) where
  -- the four writes one after the other
  abbrev x1 : List ℕ
  x1 = set xs (i + 1) a

  abbrev x2 : List ℕ
  x2 = set x1 (OPEN + (i + 1)) b

  abbrev x3 : List ℕ
  x3 = set x2 (TOP + (i + 1)) c

  abbrev zs : List ℕ
  zs = set x3 (CAPS + (i + 1)) d

  few : i < 16
  few = let h = file.filed.units_most in omega arith

  long1 : length x1 ≡ SUMS
  long1 = length-set xs (i + 1) a ∙ due.long

  long2 : length x2 ≡ SUMS
  long2 = length-set x1 (OPEN + (i + 1)) b ∙ long1

  long3 : length x3 ≡ SUMS
  long3 = length-set x2 (TOP + (i + 1)) c ∙ long2

  long4 : length zs ≡ SUMS
  long4 = length-set x3 (CAPS + (i + 1)) d ∙ long3

  -- a place that none of the four is
  else : (q : ℕ) → (q ≡ i + 1 → ⊥) → (q ≡ OPEN + (i + 1) → ⊥) → (q ≡ TOP + (i + 1) → ⊥) → (q ≡ CAPS + (i + 1) → ⊥) → entry zs q ≡ entry xs q
  unfolding entry
  else q na nb nc nd =
      get_or-set_other x3 (CAPS + (i + 1)) q d 0 nd
      ∙ get_or-set_other x2 (TOP + (i + 1)) q c 0 nc
      ∙ get_or-set_other x1 (OPEN + (i + 1)) q b 0 nb
      ∙ get_or-set_other xs (i + 1) q a 0 na

  -- the four
  at_a : entry zs (i + 1) ≡ a
  unfolding entry
  at_a =
      get_or-set_other x3 (CAPS + (i + 1)) (i + 1) d 0 (λ z. omega (arith, few))
      ∙ get_or-set_other x2 (TOP + (i + 1)) (i + 1) c 0 (λ z. omega (arith, few))
      ∙ get_or-set_other x1 (OPEN + (i + 1)) (i + 1) b 0 (λ z. omega (arith, few))
      ∙ get_or-set_same xs (i + 1) a 0 (omega (arith, few, due.long))

  at_b : entry zs (OPEN + (i + 1)) ≡ b
  unfolding entry
  at_b =
      get_or-set_other x3 (CAPS + (i + 1)) (OPEN + (i + 1)) d 0 (λ z. omega (arith, few))
      ∙ get_or-set_other x2 (TOP + (i + 1)) (OPEN + (i + 1)) c 0 (λ z. omega (arith, few))
      ∙ get_or-set_same x1 (OPEN + (i + 1)) b 0 (omega (arith, few, long1))

  at_c : entry zs (TOP + (i + 1)) ≡ c
  unfolding entry
  at_c =
      get_or-set_other x3 (CAPS + (i + 1)) (TOP + (i + 1)) d 0 (λ z. omega (arith, few))
      ∙ get_or-set_same x2 (TOP + (i + 1)) c 0 (omega (arith, few, long2))

  at_d : entry zs (CAPS + (i + 1)) ≡ d
  unfolding entry
  at_d = get_or-set_same x3 (CAPS + (i + 1)) d 0 (omega (arith, few, long3))

  -- places that were there before
  old : (q : ℕ) → q ≤ i → entry zs q ≡ entry xs q
  old q h = else q (λ z. omega (arith, few)) (λ z. omega (arith, few)) (λ z. omega (arith, few)) (λ z. omega (arith, few))

  old_open : (q : ℕ) → q ≤ i → entry zs (OPEN + q) ≡ entry xs (OPEN + q)
  old_open q h = else (OPEN + q) (λ z. omega (arith, few)) (λ z. omega (arith, few)) (λ z. omega (arith, few)) (λ z. omega (arith, few))

  old_top : (q : ℕ) → q ≤ i → entry zs (TOP + q) ≡ entry xs (TOP + q)
  old_top q h = else (TOP + q) (λ z. omega (arith, few)) (λ z. omega (arith, few)) (λ z. omega (arith, few)) (λ z. omega (arith, few))

  old_caps : (q : ℕ) → q ≤ i → entry zs (CAPS + q) ≡ entry xs (CAPS + q)
  old_caps q h = else (CAPS + q) (λ z. omega (arith, few)) (λ z. omega (arith, few)) (λ z. omega (arith, few)) (λ z. omega (arith, few))

  old_never : entry zs NEVER ≡ entry xs NEVER
  old_never = else NEVER (λ z. omega (arith, few)) (λ z. omega (arith, few)) (λ z. omega (arith, few)) (λ z. omega (arith, few))

  -- what holds of the places before and of the new one holds of all
  to_next : (P : ℕ → Type 0) → ((k : ℕ) → k ≤ i → P k) → P (i + 1) → (k : ℕ) → k ≤ i + 1 → P k
  to_next P below here k h = ⊎_elim (λ (e : k ≡ i + 1). subst P (sym e) here) (λ (m : k < i + 1). below k (omega arith)) (eq-or-lt_of_le h)

  -- the units that may never be out are as they were
  same_never : never_in zs ≡ never_in xs
  unfolding never_in
  same_never = ap (λ (n : ℕ). has n) old_never

  -- the price of unit i as a term of the sum over those that may be out
  open_term : (price saves : ℕ) → price ≡ price_in us t i → OpenPrice (entry xs NEVER) i price saves
      → saves ≡ only_in (complement (never_in xs)) (price_in us t) i
  unfolding never_in only_in complement
  open_term price saves is h = by (has (entry xs NEVER) i) refl
    where
      by : (e : Bool) → has (entry xs NEVER) i ≡ e → saves ≡ if (not (has (entry xs NEVER) i)) (price_in us t i) 0
      by true e = h.out e ∙ sym (ap (λ (z : Bool). if (not z) (price_in us t i) 0) e)
      by false e = h.open_is e ∙ is ∙ sym (ap (λ (z : Bool). if (not z) (price_in us t i) 0) e)

  open_here : (price saves : ℕ) → price ≡ price_in us t i → OpenPrice (entry xs NEVER) i price saves → never_in xs i ≡ false → price_in us t i ≤ saves
  unfolding never_in
  open_here price saves is h e = omega (arith, h.open_is e)

  module _ (price given saves : ℕ) (price_is : price ≡ price_in us t i) (price_low : price ≤ MOST_PRICE)
      (given_is : given ≡ (problem file).capacity t i) (given_low : given ≤ 1000000)
      (open_price : OpenPrice (entry xs NEVER) i price saves) (top : LargerOf (entry xs (TOP + i)) saves c)
      (a-is : a ≡ entry xs i + price) (b-is : b ≡ entry xs (OPEN + i) + saves) (d-is : d ≡ entry xs (CAPS + i) + given) where
    sums : SumsTo (problem file) (price_in us) t (i + 1) zs
    sums = record {
      prices = to_next (λ (k : ℕ). entry zs k ≡ sum_to k (price_in us t)) (λ k h. old k h ∙ due.sums.prices k h)
          (at_a ∙ sum_next (price_in us t) i (entry xs i) price a (due.sums.prices i (omega arith)) price_is a-is);
      leaving = to_next (λ (k : ℕ). entry zs (OPEN + k) ≡ sum_to k (only_in (complement (never_in zs)) (price_in us t)))
          (λ k h. rw same_never (old_open k h ∙ due.sums.leaving k h))
          (rw same_never (at_b ∙ sum_next (only_in (complement (never_in xs)) (price_in us t)) i (entry xs (OPEN + i)) saves b (due.sums.leaving i (omega arith))
          (open_term price saves price_is open_price) b-is));
      top = λ k j h m e. to_next (λ (k : ℕ). (j : ℕ) → j < k → never_in xs j ≡ false → price_in us t j ≤ entry zs (TOP + k))
          (λ k h j m e. rw (old_top k h) (due.sums.top k j h m e)) high k h j m (ap (λ (f : NumSet). f j) (sym same_never) ∙ e);
      caps = to_next (λ (k : ℕ). entry zs (CAPS + k) ≡ sum_to k ((problem file).capacity t)) (λ k h. old_caps k h ∙ due.sums.caps k h)
          (at_d ∙ sum_next ((problem file).capacity t) i (entry xs (CAPS + i)) given d (due.sums.caps i (omega arith)) given_is d-is);
      few = to_next (λ (k : ℕ). entry zs k ≤ k * MOST_PRICE) (λ k h. rw (old k h) (due.sums.few k h))
          (omega (arith, at_a, a-is, due.sums.few i (omega arith)));
      low = to_next (λ (k : ℕ). entry zs (TOP + k) ≤ MOST_PRICE) (λ k h. rw (old_top k h) (due.sums.low k h)) (rw at_c (most top.either));
      light = to_next (λ (k : ℕ). entry zs (CAPS + k) ≤ k * 1000000) (λ k h. rw (old_caps k h) (due.sums.light k h))
          (omega (arith, at_d, d-is, due.sums.light i (omega arith)));
    }
      where
        most : (c ≡ entry xs (TOP + i)) ⊎ (c ≡ saves) → c ≤ MOST_PRICE
        most (inl e) = omega (arith, e, due.sums.low i (omega arith))
        most (inr e) = omega (arith, e, open_price.small)

        high : (j : ℕ) → j < i + 1 → never_in xs j ≡ false → price_in us t j ≤ entry zs (TOP + (i + 1))
        high j m e =
            let few : j ≤ i = omega arith in
            ⊎_elim
            (λ (z : j ≡ i). omega (arith, at_c, top.second, open_here price saves price_is open_price (subst (λ (n : ℕ). never_in xs n ≡ false) z e), ap (λ (n : ℕ). price_in us t n) z))
            (λ (n : j < i). omega (arith, at_c, top.first, due.sums.top i j (omega arith) n e))
            (eq-or-lt_of_le few)

    put_next : SumsDue file us t zs (i + 1)
    put_next = record {
      at = due.at;
      long = long4;
      sums = sums;
      never = rw same_never due.never;
      word = rw old_never due.word;
    }

-- ---- all units

pub given_ended : (file : File) (t i n sum : ℕ) → n ≡ file.layout.units → i ≤ n → n ≤ i → sum ≡ sum_to i ((problem file).capacity t)
    → sum ≡ sum_to (problem file).units ((problem file).capacity t)
given_ended file t i n sum is a b e = e ∙ ap (λ (k : ℕ). sum_to k ((problem file).capacity t)) (omega (arith, file.filed.units_are))

-- the root of the search
pub root_made : (p : Problem) (t : ℕ) (xs : List ℕ) (need : Kilo) (crews bar out : ℕ) → need.0 ≡ p.demand t → crews ≡ p.crews → crews ≤ 16 → bar ≡ entry xs NEVER
    → AtRoot p t xs (record { week = t; need = need; crews = crews; bar = bar; out = out; score = record { 0 = 0 } })
root_made p t xs need crews bar out n c f b = record { week = refl; need = n; crews = c; few = f; bar = b; score = refl }

-- no unit put in yet: all sums are 0
pub sums_start : (file : File) (us : List ℕ) (t never : ℕ) → FreeAt file us t → never < 4294967296
    → NeverTo (problem file) t (problem file).units (has never) → SumsDue file us t (set (replicate SUMS 0) NEVER never) 0
unfolding never_in sum_to entry
sums_start file us t never at word h = record {
  at = at;
  long = length-set (replicate SUMS 0) NEVER never ∙ length-replicate {A = ℕ} SUMS 0;
  sums = record {
    prices = λ k m. none k (λ z. omega arith) ∙ empty k m (price_in us t);
    leaving = λ k m. none (OPEN + k) (λ z. omega arith) ∙ empty k m (only_in (complement (has (entry (set (replicate SUMS 0) NEVER never) NEVER))) (price_in us t));
    top = λ k i m d e. absurd (omega arith);
    caps = λ k m. none (CAPS + k) (λ z. omega arith) ∙ empty k m ((problem file).capacity t);
    few = λ k m. omega (arith, none k (λ z. omega arith));
    low = λ k m. omega (arith, none (TOP + k) (λ z. omega arith));
    light = λ k m. omega (arith, none (CAPS + k) (λ z. omega arith));
  };
  never = rw here h;
  word = rw here word;
}
  where
    here : get_or (set (replicate SUMS 0) NEVER never) NEVER 0 ≡ never
    here = get_or-set_same (replicate SUMS 0) NEVER never 0 (omega (arith, length-replicate {A = ℕ} SUMS 0))

    none : (q : ℕ) → (q ≡ NEVER → ⊥) → get_or (set (replicate SUMS 0) NEVER never) q 0 ≡ 0
    none q far = get_or-set_other (replicate SUMS 0) NEVER q never 0 far ∙ zeros_at SUMS q

    empty : (k : ℕ) → k ≤ 0 → (f : ℕ → ℕ) → 0 ≡ sum_to k f
    empty zero m f = refl
    empty (suc k) m f = absurd (omega arith)

-- unit i is to be put in
pub sums_few : (file : File) (us : List ℕ) (t : ℕ) (xs : List ℕ) (i : ℕ) → SumsDue file us t xs i → entry xs NEVER < 4294967296
sums_few file us t xs i due = due.word

pub sums_ended : (file : File) (us : List ℕ) (t : ℕ) (xs : List ℕ) (i n : ℕ) → SumsDue file us t xs i → n ≡ file.layout.units → i ≤ n → n ≤ i
    → SumsDue file us t xs file.layout.units
sums_ended file us t xs i n due is a b = subst (λ (k : ℕ). SumsDue file us t xs k) (omega arith) due

-- sums with one unit more fit a word
module _ (file : File) (us : List ℕ) (t : ℕ) (xs : List ℕ) (i : ℕ) (due : SumsDue file us t xs i) (unit : i < file.layout.units) where
  pub prices_fit : (prices price : ℕ) → prices ≡ entry xs i → price ≤ MOST_PRICE → prices + price < 18446744073709551616
  prices_fit prices price is low = let h = file.filed.units_most in omega (arith, due.sums.few i (omega arith))

  pub opens_fit : (never price opens saves : ℕ) → opens ≡ entry xs (OPEN + i) → OpenPrice never i price saves → price ≤ MOST_PRICE
      → opens + saves < 18446744073709551616
  opens_fit never price opens saves is h low =
      let m = file.filed.units_most in
      omega (
        arith,
        h.small,
        due.sums.few i (omega arith),
        due.sums.leaving i (omega arith),
        due.sums.prices i (omega arith),
        sum_split i (never_in xs) (price_in us t),
      )

  pub caps_fit : (caps given : ℕ) → caps ≡ entry xs (CAPS + i) → given ≤ 1000000 → caps + given < 18446744073709551616
  caps_fit caps given is low = let h = file.filed.units_most in omega (arith, due.sums.light i (omega arith))

-- unit i with its sums
pub added : (p : Problem) (us : List ℕ) (t : ℕ) (xs : List ℕ) (i price saves given a b c d : ℕ) → price ≡ price_in us t i → price ≤ MOST_PRICE
    → given ≡ p.capacity t i → given ≤ 1000000 → OpenPrice (entry xs NEVER) i price saves → a ≡ entry xs i + price → b ≡ entry xs (OPEN + i) + saves
    → LargerOf (entry xs (TOP + i)) saves c → d ≡ entry xs (CAPS + i) + given → UnitAdded p us t xs i (record { prices = a; saved = b; top = c; caps = d })
added p us t xs i price saves given a b c d pi pl gi gl o ea eb lc ed = record {
  price = price;
  saves = saves;
  given = given;
  price_is = pi;
  price_low = pl;
  given_is = gi;
  given_low = gl;
  open_price = o;
  prices = ea;
  leaving = eb;
  top = lc;
  caps = ed;
}

-- and put into the table
pub sums_next : (file : File) (us : List ℕ) (t : ℕ) (xs : List ℕ) (i : ℕ) (r : SumsWith) → SumsDue file us t xs i → i < file.layout.units
    → UnitAdded (problem file) us t xs i r
    → SumsDue file us t (set (set (set (set xs (i + 1) r.prices) (OPEN + (i + 1)) r.saved) (TOP + (i + 1)) r.top) (CAPS + (i + 1)) r.caps) (i + 1)
sums_next file us t xs i r due unit h =
    put_next file us t xs i r.prices r.saved r.top r.caps due unit h.price h.given h.saves h.price_is h.price_low h.given_is
    h.given_low h.open_price h.top h.prices h.leaving h.caps
