-- The permitted starts of a unit are a range: from its earliest to its latest, or to the last from which its overhaul ends in time.
-- Assumes nothing.
use Prim.Native.Nat.{ℕ, zero, suc, ◌+◌, ◌-◌, ◌≤◌, ◌<◌, min}
use mathlib.Core.Path.{◌≡◌, sym, ◌∙◌}
use mathlib.Core.Bool.{true, ◌&&◌}
use native.Mathlib.Decide.{dec_le}
use native.Mathlib.Omega.{arith}
use lib.Dec.{leb}
use borrow.Author.Tests.{leb-true, le-leb, lt-leb}
use Rattle.sums.specs.Logic.{if}
use Rattle.sums.specs.Range.{count_to}
use Rattle.sums.proofs.LogicLaws.{and_of, and_left, and_right, and_last_false, same_test}
use Rattle.model.specs.Problem.{Problem}
use Rattle.model.specs.Domain.{permitted, starts_below, start_count}
use Rattle.model.proofs.DomainLaws.{permits_from, permits_to, permits_ends, permits_of}
use Rattle.instance.specs.declared.file.File.{File}
use Rattle.instance.specs.File.{problem}
use Rattle.instance.specs.Filed.{Filed}
use Rattle.overhaul.specs.Range.{last_start, StartRange}

-- of any problem, where the overhaul fits into the season
range_of : (p : Problem) (i b : ℕ) → p.duration i ≤ p.weeks → b ≡ min (p.latest i) (p.weeks - p.duration i + 1)
    → (s : ℕ) → permitted p i s ≡ (leb (p.earliest i) s && leb s b)
range_of p i b h e s =
    let a : ℕ = p.earliest i in
    same_test (permitted p i s) (leb a s && leb s b)
    (λ t. and_of (leb a s) (leb s b) (le-leb a s (permits_from p i s t)) (le-leb s b (omega (arith, permits_to p i s t, permits_ends p i s t))))
    (λ t.
    let m = leb-true s b (and_right (leb a s) (leb s b) t) in
    permits_of p i s (leb-true a s (and_left (leb a s) (leb s b) t)) (omega arith) (omega arith))

module _ (file : File) (i a b d last : ℕ) where
  -- of a file's problem, by its figures as they are read
  pub starts_range : Filed file.words.now file.layout → a ≡ (problem file).earliest i → b ≡ (problem file).latest i → d ≡ (problem file).duration i → d ≤ file.layout.weeks
      → last ≡ min b (file.layout.weeks - d + 1) → StartRange (problem file) i a last
  starts_range f ea eb ed h e = record {
    exact = rw ea (range_of (problem file) i last (rw (f.weeks_are, ← ed) h) (rw (f.weeks_are, ← eb, ← ed) e));
  }

-- the last of them
pub last_is : (file : File) (i b d last : ℕ) → b ≡ (problem file).latest i → d ≡ (problem file).duration i
    → last ≡ min b (file.layout.weeks - d + 1) → last ≡ last_start (problem file) i
unfolding last_start
last_is file i b d last eb ed e = rw (file.filed.weeks_are, ← eb, ← ed) e

-- none lies after the season
pub last_within : (w b c last : ℕ) → last ≡ min b c → b ≤ w → last ≤ w
last_within w b c last e h = omega arith

-- ---- permitted or not, by the range

module _ (p : Problem) (i first last s : ℕ) (range : StartRange p i first last) where
  -- a start in the range is permitted
  pub range_in : first ≤ s → s ≤ last → permitted p i s ≡ true
  range_in a b = range.exact s ∙ and_of (leb first s) (leb s last) (le-leb first s a) (le-leb s last b)

  -- a permitted start lies in the range
  pub range_at : permitted p i s ≡ true → (first ≤ s) × (s ≤ last)
  range_at e =
      let t : (leb first s && leb s last) ≡ true = sym (range.exact s) ∙ e in
      (leb-true first s (and_left (leb first s) (leb s last) t), leb-true s last (and_right (leb first s) (leb s last) t))

-- ---- how many there are

module _ (p : Problem) (i first last : ℕ) (range : StartRange p i first last) where
  -- of a range of permitted starts so many lie below n
  counted_range : (n : ℕ) → starts_below p i n ≡ min n (last + 1) - first
  unfolding starts_below count_to
  counted_range zero = omega arith
  counted_range (suc n) = by (dec_le first n) (dec_le n last) (counted_range n)
    where
      by : Dec (first ≤ n) → Dec (n ≤ last) → count_to n (permitted p i) ≡ min n (last + 1) - first
          → count_to n (permitted p i) + if (permitted p i n) 1 0 ≡ min (suc n) (last + 1) - first
      by (yes a) (yes b) ih = rw (range.exact n, le-leb first n a, le-leb n last b) (omega arith)
      by (yes a) (no b) ih = let h : last < n = omega arith in rw (range.exact n, lt-leb n last h, and_last_false (leb first n)) (omega arith)
      by (no a) b ih = let h : n < first = omega arith in rw (range.exact n, lt-leb first n h) (omega arith)

  -- below a start of the range
  pub below_start : (v : ℕ) → v ≤ last + 1 → starts_below p i v ≡ v - first
  below_start v h = omega (arith, counted_range v)

  -- all of them
  pub start_count_lem : last ≤ p.weeks → start_count p i ≡ last + 1 - first
  unfolding start_count
  start_count_lem h = omega (arith, counted_range (p.weeks + 1))
