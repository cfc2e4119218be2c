-- What the rounds keep to: prices and pushes in a table, read and written, the length of a step and what it changes, and the weeks of an overhaul.
-- Assumes nothing.
use Prim.Native.Nat.{ℕ, ◌+◌, ◌*◌, ◌/◌, ◌-◌, ◌≤◌, ◌<◌}
use mathlib.Core.Path.{◌≡◌, refl, ◌∙◌}
use mathlib.Core.List.{List}
use mathlib.Core.Logic.{◌⊎◌, inl, inr}
use native.Mathlib.Nat.{le_trans, mul-le-mul_left, mul-le-mul_right, div-le_self}
use native.Mathlib.Omega.{arith}
use lib.Dec.{ltb, leb}
use lib.ListN.{length, get_or, set, length-set}
use lib.Seq.{get_or-set_other}
use mir.Syntax.{w64}
use mir.Val.{Fits}
use borrow.Author.Tests.{le-leb, lt-leb}
use Rattle.sums.specs.Table.{AtMost}
use Rattle.model.specs.Schedule.{in_span}
use Rattle.instance.specs.declared.file.File.{File}
use Rattle.instance.specs.File.{problem}
use Rattle.overhaul.specs.Range.{last_start}
use Rattle.tables.specs.Tables.{PARTNERS, OFFS, HARD_WEEKS, TABLES, MOST_PRICE, partners_in, off_in, Prices, First, Priced, Begins}
use Rattle.tables.proofs.TableLaws.{first_priced, prices_put, begins_put, begins_priced}
use Rattle.prices.specs.Ranges.{LEVEL, MOST_PUSH, MOST_SQUARE, MOST_AIM, REACH, MOST_STEP, STEP_SCALE, MOST_CHANGE, PricedFile, Moved, OneOf}

-- ---- prices

-- none yet
pub priced_first : (file : File) (xs : List ℕ) → First (problem file) (problem file).units xs → PricedFile file xs
priced_first file xs h = record { priced = first_priced (problem file) xs h }

-- no price moved yet
pub moved_start : (xs : List ℕ) → Prices xs → Moved xs xs
moved_start xs h = record { long = refl; prices = h; same = λ k far. refl }

-- one price written
pub moved_next : (xs ys : List ℕ) (t i n u v : ℕ) → Moved xs ys → t < 52 → i < n → n ≡ u → u ≤ 16 → v ≤ MOST_PRICE → Moved xs (set ys (t * 16 + i) v)
moved_next xs ys t i n u v h week unit is few small = record {
  long = length-set ys (t * 16 + i) v ∙ h.long;
  prices = prices_put ys (t * 16 + i) v h.prices small;
  same = λ k far. get_or-set_other ys (t * 16 + i) k v 0 (λ z. omega arith) ∙ h.same k far;
}

-- and moved again
pub moved_on : (xs ys zs : List ℕ) → Moved xs ys → Moved ys zs → Moved xs zs
moved_on xs ys zs a b = record {
  long = b.long ∙ a.long;
  prices = b.prices;
  same = λ k far. b.same k far ∙ a.same k far;
}

-- partners and OFF costs are as they were
pub moved_priced : (file : File) (xs ys : List ℕ) → PricedFile file xs → Moved xs ys → PricedFile file ys
unfolding partners_in off_in
moved_priced file xs ys h m = record {
  priced = record {
    long = m.long ∙ h.priced.long;
    prices = m.prices;
    partners = record { each = λ i few. rw (m.same (PARTNERS + i) (omega arith)) (h.priced.partners.each i few) };
    offs = record {
      each = λ i few. rw (m.same (OFFS + i) (omega arith)) (h.priced.offs.each i few);
      small = λ i few. rw (m.same (OFFS + i) (omega arith)) (h.priced.offs.small i few);
    };
  };
}

-- the first of two tables
pub one_of_first : (xs ys : List ℕ) → OneOf xs ys xs
one_of_first xs ys = record { either = inl refl }

-- the second
pub one_of_second : (xs ys : List ℕ) → OneOf xs ys ys
one_of_second xs ys = record { either = inr refl }

-- one of two such tables
pub priced_either : (file : File) (xs ys zs : List ℕ) → PricedFile file xs → PricedFile file ys → OneOf xs ys zs → PricedFile file zs
priced_either file xs ys zs a b h = by h.either
  where
    by : (zs ≡ xs) ⊎ (zs ≡ ys) → PricedFile file zs
    by (inl e) = rw e a
    by (inr e) = rw e b

-- and its prices
pub priced_chosen : (file : File) (xs ys zs : List ℕ) → PricedFile file xs → PricedFile file ys → OneOf xs ys zs → Priced (problem file) zs
priced_chosen file xs ys zs a b h = (priced_either file xs ys zs a b h).priced

-- ---- pushes

-- a push read
pub push_most : (xs : List ℕ) (k : ℕ) → AtMost MOST_PUSH xs → get_or xs k 0 ≤ MOST_PUSH
push_most xs k h = h.most k

-- ---- steps

-- a product grows with its factors
product_most : (a b m n : ℕ) → a ≤ m → b ≤ n → a * b ≤ m * n
product_most a b m n h k = le_trans (mul-le-mul_right b h) (mul-le-mul_left m k)

-- the square of a push
pub square_most : (a : ℕ) → a ≤ LEVEL → a * a ≤ MOST_SQUARE
square_most a h = product_most a a LEVEL LEVEL h h

pub square_fits : (a : ℕ) → a ≤ LEVEL → Fits w64 (a * a)
square_fits a h = record { fits = omega (arith, square_most a h) }

-- what a step comes to before it is divided by the squared norm
aim_most : (a b : ℕ) → a ≤ MOST_AIM → b ≤ REACH → a * b ≤ MOST_STEP
aim_most a b h k = product_most a b MOST_AIM REACH h k

pub aim_fits : (a b : ℕ) → a ≤ MOST_AIM → b ≤ REACH → Fits w64 (a * b)
aim_fits a b h k = record { fits = omega (arith, aim_most a b h k) }

-- the step
pub step_most : (a b n : ℕ) → a ≤ MOST_AIM → b ≤ REACH → a * b / n ≤ MOST_STEP
step_most a b n h k = le_trans (div-le_self (a * b) n) (aim_most a b h k)

-- a step and a push
pub change_fits : (a b : ℕ) → a ≤ MOST_STEP → b ≤ LEVEL → Fits w64 (a * b)
change_fits a b h k = record { fits = omega (arith, product_most a b MOST_STEP LEVEL h k) }

-- what they change a price by
pub change_most : (a b : ℕ) → a ≤ MOST_STEP → b ≤ LEVEL → a * b / STEP_SCALE ≤ MOST_CHANGE
change_most a b h k = omega (arith, product_most a b MOST_STEP LEVEL h k)

-- ---- overhauls

-- an overhaul ends in the season from the last permitted start
pub last_ends : (file : File) (i last d : ℕ) → last ≡ last_start (problem file) i → d ≡ (problem file).duration i
    → d ≤ file.layout.weeks → last + d ≤ file.layout.weeks + 1
unfolding last_start
last_ends file i last d e ed h = omega (arith, file.filed.weeks_are)

-- and so from the first
pub first_ends : (file : File) (i first last d : ℕ) → last ≡ last_start (problem file) i → d ≡ (problem file).duration i
    → d ≤ file.layout.weeks → 1 ≤ first → first ≤ last → first - 1 + d ≤ file.layout.weeks
first_ends file i first last d e ed h a b = omega (arith, last_ends file i last d e ed h)

-- a week before it
pub span_before : (s d t : ℕ) → t + 1 < s → leb s (t + 1) ≡ in_span s d t
unfolding in_span
span_before s d t h = rw (lt-leb s (t + 1) h) refl

-- and one from its start on
pub span_after : (s d t : ℕ) → s ≤ t + 1 → ltb (t + 1) (s + d) ≡ in_span s d t
unfolding in_span
span_after s d t h = rw (le-leb s (t + 1) h)

-- ---- hard weeks noted behind all else

-- as the table was
pub hard_start : (xs : List ℕ) → length xs ≡ TABLES → Begins HARD_WEEKS xs xs
hard_start xs e = record { long = e; same = λ k l. refl }

-- one week more
pub hard_next : (xs ys : List ℕ) (t v : ℕ) → Begins HARD_WEEKS xs ys → Begins HARD_WEEKS xs (set ys (HARD_WEEKS + t) v)
hard_next xs ys t v h = begins_put HARD_WEEKS xs ys (HARD_WEEKS + t) v h (omega arith)

-- so it has the prices, partners and OFF costs that it had
pub hard_priced : (file : File) (xs ys : List ℕ) → Begins HARD_WEEKS xs ys → Priced (problem file) xs → Priced (problem file) ys
hard_priced file xs ys h priced = begins_priced file HARD_WEEKS xs ys h (omega arith) priced
