-- The least cover by units that are a choice, on top of the thrifty units, has the least score of all runs.
-- Assumes nothing.
use Prim.Native.Nat.{ℕ, zero, suc, ◌+◌, ◌*◌, ◌-◌, ◌≤◌, ◌<◌}
use mathlib.Core.Path.{◌≡◌, refl, sym, ◌∙◌, ap}
use mathlib.Core.Bool.{Bool, true, false, not, ◌&&◌, ◌||◌}
use native.Mathlib.Nat.{mul-le-mul_right}
use native.Mathlib.Omega.{arith}
use lib.Dec.{ltb}
use borrow.Author.Tests.{ltb-true, ltb-false}
use Rattle.sums.specs.Logic.{if}
use Rattle.sums.specs.Sum.{sum_to, added}
use Rattle.sums.specs.NumSet.{NumSet, only_in, parts, complement, number_of, has}
use Rattle.sums.proofs.LogicLaws.{true_false, not_at}
use Rattle.sums.proofs.SumLaws.{sum_mono, sum_same, sum_added}
use Rattle.sums.proofs.NumSetLaws.{pick_agree, number_below, number_has}
use Rattle.model.specs.Problem.{Problem}
use Rattle.model.specs.Rules.{output}
use Rattle.model.specs.Commitment.{line_cost, full_cost, Serves}
use Rattle.cover.specs.Cover.{Covers, Reached, LeastCover}
use Rattle.commitment.specs.Score.{thrifty, decided}

-- a unit's weight, and a run's score, for any scale and any ties
unfoldable pub weight_for : Problem → (scale : ℕ) → (tie : ℕ → ℕ) → ℕ → ℕ → ℕ
weight_for p scale tie t i = (p.running t i - p.off t i) * scale + tie i

unfoldable pub score_for : Problem → (scale : ℕ) → (tie : ℕ → ℕ) → ℕ → ℕ → ℕ
score_for p scale tie t r = full_cost p t r * scale + sum_to p.units (only_in (has r) tie)

module _ (p : Problem) (scale : ℕ) (tie : ℕ → ℕ) (t : ℕ) where
  -- a unit's term of a score
  abbrev pub term : NumSet → ℕ → ℕ
  term z i = if (z i) (p.running t i * scale + tie i) (p.off t i * scale)

  -- the score of a set of units is the sum of all units' terms
  score_terms : (n : ℕ) (z : NumSet) → sum_to n (parts z (p.running t) (p.off t)) * scale + sum_to n (only_in z tie) ≡ sum_to n (term z)
  unfolding sum_to parts only_in
  score_terms zero z = omega arith
  score_terms (suc n) z = by (z n) (score_terms n z)
    where
      by : (b : Bool) → sum_to n (parts z (p.running t) (p.off t)) * scale + sum_to n (only_in z tie) ≡ sum_to n (term z)
          → (sum_to n (parts z (p.running t) (p.off t)) + if b (p.running t n) (p.off t n)) * scale + (sum_to n (only_in z tie) + if b (tie n) 0)
          ≡ sum_to n (term z) + if b (p.running t n * scale + tie n) (p.off t n * scale)
      by true e = omega (arith, mul_add (sum_to n (parts z (p.running t) (p.off t))) (p.running t n))
        where
          mul_add : (a b : ℕ) → (a + b) * scale ≡ a * scale + b * scale
          mul_add a b = omega arith
      by false e = omega arith

  pub score_sum : (r : ℕ) → score_for p scale tie t r ≡ sum_to p.units (term (has r))
  unfolding score_for full_cost line_cost
  score_sum r = score_terms p.units (has r)

  -- ---- one unit, thrifty or not, in a set or not

  module _ (out : NumSet) (small : (i : ℕ) → i < p.units → tie i ≤ scale) where
    -- the units of a set that are a choice
    abbrev chosen : NumSet → NumSet
    chosen z i = z i && not (thrifty p t out i)

    -- a set and the thrifty units
    abbrev joint : NumSet → NumSet
    joint z i = z i || thrifty p t out i

    dear : (c o : ℕ) → c < o → c * scale + scale ≤ o * scale
    dear c o l = let e : (c + 1) * scale ≤ o * scale = mul-le-mul_right scale (below c o l) in omega arith
      where
        below : (c o : ℕ) → c < o → c + 1 ≤ o
        below c o l = omega arith

    cheap : (c o : ℕ) → o ≤ c → o * scale + (c - o) * scale ≡ c * scale
    cheap c o l =
        let e : o + (c - o) ≡ c = omega arith in
        let m : (o + (c - o)) * scale ≡ o * scale + (c - o) * scale = omega arith in
        sym m ∙ ap (λ (z : ℕ). z * scale) e

    -- the thrifty units and the chosen ones weigh no more than the set, where the set avoids the units out
    unit_below : (z : NumSet) (i : ℕ) → i < p.units → (out i ≡ true → z i ≡ false)
        → term (thrifty p t out) i + only_in (chosen z) (weight_for p scale tie t) i ≤ term z i
    unfolding thrifty only_in weight_for
    unit_below z i l free = go (out i) (ltb (p.running t i) (p.off t i)) (z i) refl free
      where
        go : (a b c : Bool) → ltb (p.running t i) (p.off t i) ≡ b → (a ≡ true → c ≡ false)
            → if (not a && b) (p.running t i * scale + tie i) (p.off t i * scale)
            + if (c && not (not a && b)) ((p.running t i - p.off t i) * scale + tie i) 0
            ≤ if c (p.running t i * scale + tie i) (p.off t i * scale)
        go true b true e f = true_false (f refl)
        go true b false e f = omega arith
        go false true true e f = omega arith
        go false true false e f = omega (arith, small i l, dear (p.running t i) (p.off t i) (ltb-true (p.running t i) (p.off t i) e))
        go false false true e f = omega (arith, cheap (p.running t i) (p.off t i) (ltb-false (p.running t i) (p.off t i) e))
        go false false false e f = omega arith

    -- with the thrifty units added they weigh the same
    unit_joint : (z : NumSet) (i : ℕ) → i < p.units → (z i ≡ true → decided p t out i ≡ false)
        → term (thrifty p t out) i + only_in z (weight_for p scale tie t) i ≡ term (joint z) i
    unfolding thrifty decided only_in weight_for
    unit_joint z i l choice = go (out i) (ltb (p.running t i) (p.off t i)) (z i) refl choice
      where
        go : (a b c : Bool) → ltb (p.running t i) (p.off t i) ≡ b → (c ≡ true → (a || (not a && b)) ≡ false)
            → if (not a && b) (p.running t i * scale + tie i) (p.off t i * scale) + if c ((p.running t i - p.off t i) * scale + tie i) 0
            ≡ if (c || (not a && b)) (p.running t i * scale + tie i) (p.off t i * scale)
        go true b true e f = true_false (f refl)
        go true b false e f = omega arith
        go false true true e f = true_false (f refl)
        go false true false e f = omega arith
        go false false true e f = omega (arith, cheap (p.running t i) (p.off t i) (ltb-false (p.running t i) (p.off t i) e))
        go false false false e f = omega arith

    -- ---- all units

    -- the score of the thrifty units alone
    abbrev pub base : ℕ
    base = sum_to p.units (term (thrifty p t out))

    -- what is still needed when they run
    abbrev pub needed : ℕ
    needed = p.demand t - output p t (thrifty p t out)

    sets_below : (z : NumSet) → ((i : ℕ) → i < p.units → out i ≡ true → z i ≡ false)
        → base + sum_to p.units (only_in (chosen z) (weight_for p scale tie t)) ≤ sum_to p.units (term z)
    unfolding added
    sets_below z free = omega (
      arith,
      sum_added p.units (term (thrifty p t out)) (only_in (chosen z) (weight_for p scale tie t)),
      sum_mono p.units (added (term (thrifty p t out)) (only_in (chosen z) (weight_for p scale tie t))) (term z) (λ i l. unit_below z i l (free i l)),
    )

    sets_joint : (z : NumSet) → ((i : ℕ) → i < p.units → z i ≡ true → decided p t out i ≡ false)
        → base + sum_to p.units (only_in z (weight_for p scale tie t)) ≡ sum_to p.units (term (joint z))
    unfolding added
    sets_joint z choice = omega (
      arith,
      sum_added p.units (term (thrifty p t out)) (only_in z (weight_for p scale tie t)),
      sum_same p.units (added (term (thrifty p t out)) (only_in z (weight_for p scale tie t))) (term (joint z)) (λ i l. unit_joint z i l (choice i l)),
    )

    -- ---- runs and covers

    -- the chosen units of a run cover what is still needed
    serves_covers : (r : ℕ) → Serves p t out r → Covers (complement (decided p t out)) (p.capacity t) p.units needed (chosen (has r))
    unfolding output complement decided thrifty only_in added
    serves_covers r s = record {
      allowed = λ i l e. go (out i) (ltb (p.running t i) (p.off t i)) (has r i) (s.run.free i l) e;
      enough = omega (
        arith,
        s.meets,
        sum_mono p.units (only_in (has r) (p.capacity t))
            (added (only_in (thrifty p t out) (p.capacity t)) (only_in (chosen (has r)) (p.capacity t))) (λ i l. part i),
        sum_added p.units (only_in (thrifty p t out) (p.capacity t)) (only_in (chosen (has r)) (p.capacity t)),
      );
    }
      where
        go : (a b c : Bool) → (a ≡ true → c ≡ false) → (c && not (not a && b)) ≡ true → not (a || (not a && b)) ≡ true
        go true b true f e = true_false (f refl)
        go true b false f e = true_false (sym e)
        go false true true f e = true_false (sym e)
        go false true false f e = true_false (sym e)
        go false false c f e = refl

        part : (i : ℕ) → only_in (has r) (p.capacity t) i ≤ added (only_in (thrifty p t out) (p.capacity t)) (only_in (chosen (has r)) (p.capacity t)) i
        part i = at (has r i) (thrifty p t out i)
          where
            at : (c b : Bool) → if c (p.capacity t i) 0 ≤ if b (p.capacity t i) 0 + if (c && not b) (p.capacity t i) 0
            at true true = omega arith
            at true false = omega arith
            at false b = omega arith

    -- no run has a smaller score than the thrifty units and the least cover
    pub least_below : (v : ℕ) → LeastCover (complement (decided p t out)) (p.capacity t) (weight_for p scale tie t) p.units needed v
        → (r : ℕ) → Serves p t out r → base + v ≤ score_for p scale tie t r
    least_below v l r s = omega (
      arith,
      l.least (chosen (has r)) (serves_covers r s),
      sets_below (has r) s.run.free,
      score_sum r,
    )

    -- a run with this score
    pub record Reaching (v : ℕ) : Type 0 where
      pub run : ℕ
      pub serves : Serves p t out run
      pub score : base + v ≡ score_for p scale tie t run

    -- a cover of what is still needed, with the thrifty units, is a run of that score
    pub reached_scored : (v : ℕ) → Reached (complement (decided p t out)) (p.capacity t) (weight_for p scale tie t) p.units needed 0 v → Reaching v
    unfolding output complement decided thrifty only_in added
    reached_scored v c = record {
      run = number;
      serves = record {
        run = record {
          units = number_below p.units (joint c.set);
          free = λ i l o. number_has p.units (joint c.set) i l ∙ free (out i) (ltb (p.running t i) (p.off t i)) (c.set i) o (c.covers.allowed i l);
        };
        meets = omega (
          arith,
          c.covers.enough,
          pick_agree p.units (joint c.set) (has number) (p.capacity t) (number_has p.units (joint c.set)),
          sum_same p.units (only_in (joint c.set) (p.capacity t))
              (added (only_in (thrifty p t out) (p.capacity t)) (only_in c.set (p.capacity t))) (λ i l. part i l),
          sum_added p.units (only_in (thrifty p t out) (p.capacity t)) (only_in c.set (p.capacity t)),
        );
      };
      score = omega (
        arith,
        c.weight,
        sets_joint c.set (λ i l e. not_at (decided p t out i) (c.covers.allowed i l e)),
        score_sum number,
        sum_same p.units (term (has number)) (term (joint c.set))
            (λ i l. ap (λ (b : Bool). if b (p.running t i * scale + tie i) (p.off t i * scale)) (number_has p.units (joint c.set) i l)),
      );
    }
      where
        number : ℕ
        number = number_of p.units (joint c.set)

        free : (a b d : Bool) → a ≡ true → (d ≡ true → not (a || (not a && b)) ≡ true) → (d || (not a && b)) ≡ false
        free true b true e f = true_false (sym (f refl))
        free true b false e f = refl
        free false b d e f = true_false (sym e)

        part : (i : ℕ) → i < p.units
            → only_in (joint c.set) (p.capacity t) i ≡ added (only_in (thrifty p t out) (p.capacity t)) (only_in c.set (p.capacity t)) i
        part i l = at (out i) (ltb (p.running t i) (p.off t i)) (c.set i) (c.covers.allowed i l)
          where
            at : (a b d : Bool) → (d ≡ true → not (a || (not a && b)) ≡ true)
                → if (d || (not a && b)) (p.capacity t i) 0 ≡ if (not a && b) (p.capacity t i) 0 + if d (p.capacity t i) 0
            at true b true f = true_false (sym (f refl))
            at true b false f = refl
            at false true true f = true_false (sym (f refl))
            at false true false f = omega arith
            at false false true f = omega arith
            at false false false f = refl
