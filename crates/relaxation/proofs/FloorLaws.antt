-- What a week is worth at least with the sets whose further units lie below k, one unit more at a time: a unit that need not be tried is passed
-- over, and one that is tried leaves the sets with it to another bound.
-- Assumes nothing.
use Prim.Native.Nat.{ℕ, zero, suc, ◌+◌, ◌≤◌, ◌<◌}
use mathlib.Core.Path.{◌≡◌, refl, sym, ◌∙◌, ap, subst}
use mathlib.Core.Bool.{Bool, true, false, not, ◌&&◌, ◌||◌}
use mathlib.Core.Logic.{inl, inr}
use native.Mathlib.Numerals.{add-one}
use native.Mathlib.Decide.{ℕ_discrete}
use native.Mathlib.Omega.{arith}
use lib.Dec.{eqb}
use borrow.Author.Tests.{eq-eqb, ne_eqb}
use Rattle.sums.specs.Sum.{sum_to, counts_one}
use Rattle.sums.specs.NumSet.{NumSet}
use Rattle.sums.proofs.LogicLaws.{true_false, and_left, and_of, or_right, or_last_false, not_of}
use Rattle.sums.proofs.NumSetLaws.{sum_subset}
use Rattle.model.specs.Problem.{Problem}
use Rattle.model.specs.Rules.{headcount}
use Rattle.model.specs.Commitment.{Serves, full_cost, full_least}
use Rattle.model.specs.Plan.{Compatible}
use Rattle.model.proofs.CommitmentLaws.{fewer_out}
use Rattle.blame.specs.Priced.{WeekLeast}
use Rattle.blame.proofs.BoundLaws.{least_below}
use Rattle.relaxation.specs.Choosing.{prices_not_out, Reach, Floor, Barred, Needless}
use Rattle.relaxation.proofs.OutLaws.{Joins, joins_it, joins_old, joins_sub, not_out_joined, not_out_above, headcount_joined, compatible_fewer}

module _ (p : Problem) (u : ℕ → ℕ → ℕ) (t : ℕ) where
  -- nothing can be gained where the prices of the units below k cannot pay
  pub floor_cut : (o : NumSet) (k low left : ℕ) → k ≤ p.units → prices_not_out u t o k ≤ left
      → low + left ≤ full_least p t o + prices_not_out u t o p.units → Floor p u t o k low
  floor_cut o k low left le spare cut = record {
    below = λ x r c reach s. omega (
      arith,
      least_below p t o x r reach.all s,
      not_out_above u t o x k p.units le reach.same,
    );
  }

  -- the set itself
  pub floor_own : (o : NumSet) (v : ℕ) → v ≤ full_least p t o + prices_not_out u t o p.units → Floor p u t o 0 v
  unfolding prices_not_out sum_to
  floor_own o v l = floor_cut o 0 v 0 (omega arith) (omega arith) (omega arith)

  -- with all units it is the week's
  pub floor_week : (o : NumSet) (n v : ℕ) → p.units ≤ n → Floor p u t o n v → WeekLeast p u t o v
  unfolding prices_not_out
  floor_week o n v l f = record {
    below = λ x r c all s. f.below x r c (record { all = all; same = λ i a b. absurd (omega arith) }) s;
  }

  -- a set that has unit i only as o has it
  reach_down : (o x : NumSet) (i : ℕ) → (x i ≡ true → o i ≡ true) → Reach p o (i + 1) x → Reach p o i x
  reach_down o x i h r = record { all = r.all; same = λ k a l e. by k a l e (ℕ_discrete k i) }
    where
      by : (k : ℕ) → i ≤ k → k < p.units → x k ≡ true → Dec (k ≡ i) → o k ≡ true
      by k a l e (yes z) = ap o z ∙ h (ap x (sym z) ∙ e)
      by k a l e (no z) = r.same k (omega arith) l e

  module _ (o : NumSet) (i low : ℕ) (floor : Floor p u t o i low) where
    -- one unit more: the sets without it, and those with it
    join : (r : ℕ) → r ≤ low
        → ((x : NumSet) (z : ℕ) → Compatible p x → Reach p o (i + 1) x → x i ≡ true → Serves p t x z → r ≤ full_cost p t z + prices_not_out u t x p.units)
        → Floor p u t o (i + 1) r
    join r l taken = record { below = λ x z c reach s. by x z c reach s (x i) refl }
      where
        by : (x : NumSet) (z : ℕ) → Compatible p x → Reach p o (i + 1) x → Serves p t x z → (b : Bool) → x i ≡ b
            → r ≤ full_cost p t z + prices_not_out u t x p.units
        by x z c reach s true e = taken x z c reach e s
        by x z c reach s false e =
            omega (arith, floor.below x z c (reach_down o x i (λ y. true_false (sym y ∙ e)) reach) s)

    -- it is out already
    pass_own : o i ≡ true → Floor p u t o (i + 1) low
    pass_own h = join low (omega arith) (λ x z c reach e s. floor.below x z c (reach_down o x i (λ y. h) reach) s)

    -- it may not be out
    pass_barred : Barred p o i → Floor p u t o (i + 1) low
    pass_barred b = join low (omega arith) (λ x z c reach e s. absurd (b.never x c reach.all e))

    -- at price 0 the set without it is worth no more
    pass_free : i < p.units → o i ≡ false → u t i ≡ 0 → Floor p u t o (i + 1) low
    pass_free l out free = join low (omega arith) (λ x z c reach e s. by x z c reach e s (λ k. x k && not (eqb k i)) (λ k. refl))
      where
        by : (x : NumSet) (z : ℕ) → Compatible p x → Reach p o (i + 1) x → x i ≡ true → Serves p t x z → (y : NumSet)
            → ((k : ℕ) → y k ≡ (x k && not (eqb k i))) → low ≤ full_cost p t z + prices_not_out u t x p.units
        by x z c reach e s y is = omega (
          arith,
          free,
          floor.below y z (compatible_fewer p x y sub c) (record { all = all; same = same }) (fewer_out p t y x (λ k m. sub k) z s),
          not_out_joined u t y x i p.units l gone back,
        )
          where
            sub : (k : ℕ) → y k ≡ true → x k ≡ true
            sub k f = and_left (x k) (not (eqb k i)) (sym (is k) ∙ f)

            gone : y i ≡ false
            gone = is i ∙ ap (λ (b : Bool). x i && not b) (eq-eqb i i refl) ∙ ap (λ (b : Bool). b && false) e

            kept : (k : ℕ) → (k ≡ i → ⊥) → x k ≡ true → y k ≡ true
            kept k ne f = is k ∙ and_of (x k) (not (eqb k i)) f (not_of (eqb k i) (ne_eqb k i ne))

            all : (k : ℕ) → k < p.units → o k ≡ true → y k ≡ true
            all k m f = kept k (λ q. true_false (sym f ∙ ap o q ∙ out)) (reach.all k m f)

            same : (k : ℕ) → i ≤ k → k < p.units → y k ≡ true → o k ≡ true
            same k a m f =
                let ne : k ≡ i → ⊥ = λ q. true_false (sym f ∙ ap y q ∙ gone) in
                reach.same k (above k a ne) m (sub k f)
              where
                above : (k : ℕ) → i ≤ k → (k ≡ i → ⊥) → i + 1 ≤ k
                above k a ne = omega arith

            back : Joins y i x
            back k = at (ℕ_discrete k i)
              where
                at : Dec (k ≡ i) → x k ≡ (y k || eqb k i)
                at (yes q) = ap x q ∙ e ∙ sym (or_right (y k) (eqb k i) (eq-eqb k i q))
                at (no q) =
                    sym (is k ∙ ap (λ (b : Bool). x k && not b) (ne_eqb k i q) ∙ and_last (x k)) ∙ sym (or_last_false (y k))
                    ∙ ap (λ (b : Bool). y k || b) (sym (ne_eqb k i q))
                  where
                    and_last : (b : Bool) → (b && not false) ≡ b
                    and_last true = refl
                    and_last false = refl

    -- a unit that need not be tried
    pub pass_needless : i < p.units → Needless p u t o i → Floor p u t o (i + 1) low
    pass_needless l (inl h) = pass_own h
    pass_needless l (inr (inr b)) = pass_barred b
    pass_needless l (inr (inl free)) = by (o i) refl
      where
        by : (b : Bool) → o i ≡ b → Floor p u t o (i + 1) low
        by true e = pass_own e
        by false e = pass_free l e free

    -- any unit, where the crews allow no more
    pass_full : i < p.units → p.crews ≤ headcount p o → Floor p u t o (i + 1) low
    unfolding headcount
    pass_full l full = by (o i) refl
      where
        more : o i ≡ false → (x : NumSet) → Compatible p x → Reach p o (i + 1) x → x i ≡ true → ⊥
        more e x c reach it =
            let q : NumSet = λ k. o k || eqb k i in
            let j : Joins o i q = λ k. refl in
            omega (
              arith,
              c.crewed,
              headcount_joined p o q i l e j,
              sum_subset p.units q x counts_one (joins_sub o q i p.units j x reach.all it),
            )

        by : (b : Bool) → o i ≡ b → Floor p u t o (i + 1) low
        by true e = pass_own e
        by false e = join low (omega arith) (λ x z c reach it s. absurd (more e x c reach it))

    -- a unit tried: the sets with it are reached from the set with it
    pub floor_joined : (q : NumSet) (r : ℕ) → Joins o i q → r ≤ low → Floor p u t q i r → Floor p u t o (i + 1) r
    floor_joined q r j l high = join r l (λ x z c reach e s. high.below x z c (record {
      all = joins_sub o q i p.units j x reach.all e;
      same = λ k a m f. by x reach k a m f (ℕ_discrete k i);
    }) s)
      where
        by : (x : NumSet) → Reach p o (i + 1) x → (k : ℕ) → i ≤ k → k < p.units → x k ≡ true → Dec (k ≡ i) → q k ≡ true
        by x reach k a m f (yes z) = ap q z ∙ joins_it o q i j
        by x reach k a m f (no z) = joins_old o q i j k (reach.same k (omega arith) m f)

  -- where the crews allow no more, the set itself is all there is
  pub floor_full : (o : NumSet) (k low : ℕ) → k ≤ p.units → p.crews ≤ headcount p o → Floor p u t o 0 low → Floor p u t o k low
  floor_full o zero low le full floor = floor
  floor_full o (suc k) low le full floor =
      subst (λ (n : ℕ). Floor p u t o n low) (add-one k)
      (pass_full o k low (floor_full o k low (omega arith) full floor) (omega arith) full)
