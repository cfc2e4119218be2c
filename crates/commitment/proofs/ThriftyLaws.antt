-- The thrifty units as the code finds them: a unit at a time, and all of them.
-- Assumes nothing.
use Prim.Native.Nat.{ℕ, ◌+◌, ◌-◌, ◌^◌, ◌≤◌, ◌<◌}
use mathlib.Core.Path.{◌≡◌, refl, sym, ◌∙◌, ap}
use mathlib.Core.Bool.{Bool, true, false, not, ◌&&◌, ◌||◌}
use native.Mathlib.Decide.{ℕ_discrete}
use native.Mathlib.Omega.{arith}
use lib.Dec.{ltb, eqb}
use lib.Pow.{pow_pos, pow_mono}
use borrow.Author.Tests.{eq-eqb, ne_eqb, lt-ltb, le-ltb}
use Rattle.sums.specs.Sum.{sum_to, shifted}
use Rattle.sums.specs.Range.{some_to}
use Rattle.sums.specs.NumSet.{NumSet, only_in, complement, with, power, number_of, has}
use Rattle.sums.proofs.LogicLaws.{true_false, or_last_false, not_so, and_left, and_right, and_last_false}
use Rattle.sums.proofs.LoopLaws.{Gathered, gathered_ended}
use Rattle.sums.proofs.RangeLaws.{some_of, first_is}
use Rattle.sums.proofs.SumLaws.{sum_zero, sum_cut}
use Rattle.sums.proofs.NumSetLaws.{pick_agree, zero_has, number_own, number_below}
use Rattle.model.specs.Problem.{Problem}
use Rattle.model.specs.Rules.{output}
use Rattle.sets.specs.Sets.{SETS}
use Rattle.instance.specs.declared.file.File.{File}
use Rattle.instance.specs.File.{problem}
use Rattle.instance.proofs.FigureLaws.{off_none}
use Rattle.commitment.specs.Score.{thrifty, thrifty_at, ThriftyRun, decided}

-- ---- a unit at a time

module _ (p : Problem) (t i found r : ℕ) (out : NumSet) where
  -- a unit that is out is not thrifty
  pub thrifty_out : (b : Bool) → b ≡ out i → b ≡ true → (j : ℕ) → has found j ≡ (has found j || thrifty_at p t out j i)
  unfolding thrifty_at thrifty
  thrifty_out b is e j = by (ℕ_discrete j i)
    where
      by : Dec (j ≡ i) → has found j ≡ (has found j || (eqb j i && (not (out j) && ltb (p.running t j) (p.off t j))))
      by (yes z) = rw (z, ← is, e, eq-eqb i i refl) (sym (or_last_false (has found i)))
      by (no z) = rw (ne_eqb j i z) (sym (or_last_false (has found j)))

  module _ (on off : ℕ) (hon : on ≡ p.running t i) (hoff : off ≡ p.off t i) where
    -- one that costs no more OFF
    pub thrifty_dear : off ≤ on → (j : ℕ) → has found j ≡ (has found j || thrifty_at p t out j i)
    unfolding thrifty_at thrifty
    thrifty_dear l j = by (ℕ_discrete j i)
      where
        by : Dec (j ≡ i) → has found j ≡ (has found j || (eqb j i && (not (out j) && ltb (p.running t j) (p.off t j))))
        by (yes z) = rw (z, eq-eqb i i refl, le-ltb (p.running t i) (p.off t i) (omega arith), and_last_false (not (out i))) (sym (or_last_false (has found i)))
        by (no z) = rw (ne_eqb j i z) (sym (or_last_false (has found j)))

    -- one that costs less running, and is not out
    pub thrifty_cheap : (b : Bool) → b ≡ out i → b ≡ false → on < off → ((j : ℕ) → has r j ≡ with (has found) i j)
        → (j : ℕ) → has r j ≡ (has found j || thrifty_at p t out j i)
    unfolding thrifty_at thrifty
    thrifty_cheap b is e l more j = by (ℕ_discrete j i)
      where
        by : Dec (j ≡ i) → has r j ≡ (has found j || (eqb j i && (not (out j) && ltb (p.running t j) (p.off t j))))
        by (yes z) = more j ∙ rw (z, ← is, e, eq-eqb i i refl, lt-ltb (p.running t i) (p.off t i) (omega arith))
        by (no z) = more j ∙ rw (ne_eqb j i z)

-- ---- all of them

module _ (p : Problem) (t r : ℕ) (out : NumSet) (all : (j : ℕ) → has r j ≡ some_to p.units (thrifty_at p t out j)) where
  -- below U they are the thrifty units
  all_in : (j : ℕ) → j < p.units → has r j ≡ thrifty p t out j
  unfolding thrifty_at
  all_in j l = all j ∙ go (thrifty p t out j) refl
    where
      here : thrifty p t out j ≡ true → (eqb j j && thrifty p t out j) ≡ true
      here e = rw (eq-eqb j j refl) e

      go : (b : Bool) → thrifty p t out j ≡ b → some_to p.units (thrifty_at p t out j) ≡ b
      go true e = some_of p.units (thrifty_at p t out j) j l (here e)
      go false e =
          not_so (some_to p.units (thrifty_at p t out j))
          (λ s. true_false (sym (and_right (eqb j _) (thrifty p t out j) (first_is p.units (thrifty_at p t out j) s).holds) ∙ e))

  -- and there are no others
  none_above : (j : ℕ) → p.units ≤ j → has r j ≡ false
  unfolding thrifty_at
  none_above j l = all j ∙ not_so (some_to p.units (thrifty_at p t out j)) (λ s. none s)
    where
      none : some_to p.units (thrifty_at p t out j) ≡ true → ⊥
      none s =
          let f = first_is p.units (thrifty_at p t out j) s in
          by _ f.below (and_left (eqb j _) (thrifty p t out j) f.holds)
        where
          by : (i : ℕ) → i < p.units → eqb j i ≡ true → ⊥
          by i b e = true_false (sym e ∙ ne_eqb j i (λ z. omega arith))

  -- so their number is that of a run
  all_run : r < 4294967296 → p.units ≤ 16 → r < 2 ^ p.units
  unfolding number_of only_in shifted
  all_run l few =
      let e : p.units + (32 - p.units) ≡ 32 = omega arith in
      let whole : number_of 32 (has r) ≡ r = number_own 32 r (omega arith) in
      let cut : sum_to (p.units + (32 - p.units)) (only_in (has r) power)
      ≡ sum_to p.units (only_in (has r) power) + sum_to (32 - p.units) (shifted p.units (only_in (has r) power))
      = sum_cut p.units (32 - p.units) (only_in (has r) power) in
      let zero : sum_to (32 - p.units) (shifted p.units (only_in (has r) power)) ≡ 0
      = sum_zero (32 - p.units) (shifted p.units (only_in (has r) power)) (λ k h. rw (none_above (p.units + k) (omega arith))) in
      let same : sum_to 32 (only_in (has r) power) ≡ sum_to (p.units + (32 - p.units)) (only_in (has r) power)
      = ap (λ (n : ℕ). sum_to n (only_in (has r) power)) (sym e) in
      omega (arith, whole, cut, zero, same, number_below p.units (has r))

-- the loop's end
pub thrifty_ended : (file : File) (t i units r : ℕ) (out : NumSet) → Gathered (thrifty_at (problem file) t out) i r
    → units ≡ file.layout.units → i ≤ units → units ≤ i → r < 4294967296 → ThriftyRun (problem file) t out r
thrifty_ended file t i units r out g e a b small = record { units = all_run p t r out all small few; has_them = all_in p t r out all }
  where
    p : Problem
    p = problem file

    few : (problem file).units ≤ 16
    few = omega arith

    count : units ≡ (problem file).units
    count = omega arith

    all : (j : ℕ) → has r j ≡ some_to (problem file).units (thrifty_at (problem file) t out j)
    all j = gathered_ended (thrifty_at p t out) i units r g a b j ∙ ap (λ (n : ℕ). some_to n (thrifty_at p t out j)) count

-- none, where the file has no OFF costs
pub thrifty_none : (file : File) (t : ℕ) (out : NumSet) → file.layout.pairs ≤ file.layout.offs → ThriftyRun (problem file) t out 0
unfolding thrifty
thrifty_none file t out none = record {
  units = omega (arith, pow_pos (problem file).units);
  has_them = λ i h. zero_has i ∙ sym (rw (← off_none file.words.now file.layout file.filed t i none, le-ltb ((problem file).running t i) 0 (omega arith)) (and_last_false (not (out i))));
}

-- ---- what the run of them means

module _ (p : Problem) (t r : ℕ) (out : NumSet) (run : ThriftyRun p t out r) where
  -- what they give
  pub thrifty_output : output p t (has r) ≡ output p t (thrifty p t out)
  unfolding output
  thrifty_output = pick_agree p.units (thrifty p t out) (has r) (p.capacity t) run.has_them

  -- with the units out they are those that are no choice
  pub thrifty_decided : (both o : ℕ) → out ≡ has o → ((k : ℕ) → has both k ≡ (has o k || has r k)) → (i : ℕ) → i < p.units
      → complement (has both) i ≡ complement (decided p t out) i
  unfolding complement decided
  thrifty_decided both o e join i l = ap not (join i ∙ same)
    where
      same : (has o i || has r i) ≡ (out i || thrifty p t out i)
      same = rw (run.has_them i l, e)

  -- and their number lies below 2 ^ 16
  pub thrifty_small : p.units ≤ 16 → r < SETS
  thrifty_small few = let m : 2 ^ p.units ≤ 2 ^ 16 = pow_mono few in omega (arith, run.units)
