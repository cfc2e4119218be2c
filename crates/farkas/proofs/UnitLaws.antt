-- An overhaul of the free plant: the prices of its weeks, and the least of them over the permitted starts.
-- Assumes nothing.
use Prim.Native.Nat.{ℕ, ◌+◌, ◌-◌, ◌≤◌, ◌<◌}
use mathlib.Core.Path.{◌≡◌}
use mathlib.Core.Bool.{true}
use mathlib.Core.List.{List}
use native.Mathlib.Decide.{ℕ_discrete}
use native.Mathlib.Omega.{arith}
use Rattle.sums.specs.Sum.{sum_to, shifted, transposed}
use Rattle.sums.proofs.LoopLaws.{sum_next}
use Rattle.model.specs.Problem.{Problem}
use Rattle.model.specs.Domain.{permitted}
use Rattle.instance.specs.declared.file.File.{File}
use Rattle.instance.specs.File.{problem}
use Rattle.overhaul.specs.Range.{StartRange}
use Rattle.overhaul.proofs.StartLaws.{range_at}
use Rattle.overhaul.proofs.UpkeepLaws.{ends_within}
use Rattle.tables.specs.Tables.{price_in}
use Rattle.blame.specs.Free.{span_price, UnitFree}
use Rattle.dual.specs.Dual.{span_sum}
use Rattle.dual.specs.Made.{StartAt}
use Rattle.dual.proofs.CostLaws.{StartsTo, starts_ended, span_ended}
use Rattle.farkas.specs.Sums.{MOST_SPAN_PRICE, Lower, StartsFree}

-- the overhaul ends in the season
pub ends_few : (file : File) (i start d : ℕ) → StartAt file i start → d ≡ (problem file).duration i → start - 1 + d ≤ 52
ends_few file i start d at is =
    let h = file.filed.weeks_most in
    omega (arith, ends_within file i start at.unit at.permits d is)

-- one week more
pub span_next : (us : List ℕ) (i a k s v r : ℕ) → s ≡ sum_to k (shifted a (transposed (price_in us) i)) → v ≡ price_in us (a + k) i → r ≡ s + v
    → r ≡ sum_to (k + 1) (shifted a (transposed (price_in us) i))
unfolding shifted transposed
span_next us i a k s v r = sum_next (shifted a (transposed (price_in us) i)) k s v r

-- the prices of all weeks of the overhaul
pub span_priced : (file : File) (us : List ℕ) (i start k d r : ℕ) → StartAt file i start → d ≡ (problem file).duration i → k ≤ d → d ≤ k
    → r ≡ sum_to k (shifted (start - 1) (transposed (price_in us) i)) → r ≡ span_price (problem file) (price_in us) i start
unfolding span_price span_sum
span_priced file us i start k d r at is m n e = span_ended file (transposed (price_in us) i) i start k d r at is m n e

-- no start yet
pub free_start : (p : Problem) (u : ℕ → ℕ → ℕ) (i a b : ℕ) → StartRange p i a b → StartsFree p u i a MOST_SPAN_PRICE
free_start p u i a b g = record { below = λ q l e. absurd (omega (arith, (range_at p i a b q g e).0)); small = omega arith }

-- one more
pub free_next : (p : Problem) (u : ℕ → ℕ → ℕ) (i s v c r : ℕ) → StartsFree p u i s v → c ≡ span_price p u i s → Lower v c r → StartsFree p u i (s + 1) r
free_next p u i s v c r h e low = record {
  below = λ q l t. by q l t (ℕ_discrete q s);
  small = omega (arith, h.small, low.first);
}
  where
    by : (q : ℕ) → q < s + 1 → permitted p i q ≡ true → Dec (q ≡ s) → r ≤ span_price p u i q
    by q l t (yes z) = rw z (omega (arith, low.second))
    by q l t (no z) = omega (arith, low.first, h.below q (omega arith) t)

-- all of them
pub free_ended : (p : Problem) (u : ℕ → ℕ → ℕ) (i a b s v : ℕ) → StartsTo p i a b s → StartsFree p u i s v → b ≤ s → UnitFree p u i v
free_ended p u i a b s v g h l = record { below = λ q t. h.below q (starts_ended p i a b s g l q t) t }

pub free_most : (p : Problem) (u : ℕ → ℕ → ℕ) (i s v : ℕ) → StartsFree p u i s v → v ≤ MOST_SPAN_PRICE
free_most p u i s v h = h.small

-- a start fits a word
pub start_fits : (p : Problem) (i s b first last w : ℕ) → s < b → b ≡ last + 1 → StartRange p i first last → last ≤ w → w ≤ 52 → s < 4294967296
start_fits p i s b first last w less is range few most = omega arith
