-- What every set of units that may be out comes to at least: by the capacities, by the prices that could be saved, and by the two ways of one unit.
-- Assumes nothing.
use Prim.Native.Nat.{ℕ, zero, suc, ◌+◌, ◌-◌, ◌*◌, ◌≤◌, ◌<◌}
use mathlib.Core.Path.{◌≡◌, refl, sym, ◌∙◌, ap}
use mathlib.Core.Bool.{Bool, true, false, not}
use mathlib.Core.Logic.{⊎_elim}
use native.Mathlib.Nat.{eq-or-lt_of_le, le_trans, mul-le-mul_right, add-mul, one-mul, zero-mul}
use native.Mathlib.Omega.{arith}
use Rattle.sums.specs.Logic.{if}
use Rattle.sums.specs.Sum.{sum_to, counts_one}
use Rattle.sums.specs.NumSet.{NumSet, only_in, complement}
use Rattle.sums.proofs.LogicLaws.{true_false}
use Rattle.sums.proofs.NumSetLaws.{sum_split, sum_subset}
use Rattle.model.specs.Problem.{Problem}
use Rattle.farkas.specs.Choices.{MayBeOut, Floor, barred}

-- ---- one unit

module _ (f : ℕ → ℕ) (x : NumSet) (i : ℕ) where
  -- the terms of a unit that is out, and of one that stays
  out_term : x i ≡ true → (only_in x f i ≡ f i) × (only_in (complement x) f i ≡ 0)
  unfolding only_in complement
  out_term e = (ap (λ (b : Bool). if b (f i) 0) e, ap (λ (b : Bool). if (not b) (f i) 0) e)

  stay_term : x i ≡ false → (only_in x f i ≡ 0) × (only_in (complement x) f i ≡ f i)
  unfolding only_in complement
  stay_term e = (ap (λ (b : Bool). if b (f i) 0) e, ap (λ (b : Bool). if (not b) (f i) 0) e)

-- a term is no more than the sum
term_most : (n i : ℕ) (f : ℕ → ℕ) → i < n → f i ≤ sum_to n f
unfolding sum_to
term_most zero i f h = absurd (omega arith)
term_most (suc n) i f h =
    let few : i ≤ n = omega arith in
    ⊎_elim (λ (e : i ≡ n). rw e (omega arith)) (λ (l : i < n). omega (arith, term_most n i f l)) (eq-or-lt_of_le few)

-- the units that stay give what all give, less what one gives that is out
pub sum_without : (n : ℕ) (x : NumSet) (f : ℕ → ℕ) (i : ℕ) → i < n → x i ≡ true → sum_to n (only_in (complement x) f) + f i ≤ sum_to n f
sum_without n x f i h e = omega (arith, sum_split n x f, term_most n i (only_in x f) h, (out_term f x i e).0)

module _ (p : Problem) (u : ℕ → ℕ → ℕ) (t : ℕ) where
  -- a smaller number
  pub floor_less : {k need crews score v w : ℕ} {bar : NumSet} → w ≤ v → Floor p u t k need crews bar score v → Floor p u t k need crews bar score w
  floor_less le h = record { below = λ x may. le_trans le (h.below x may) }

  -- others barred, but the same
  pub floor_bars : {k need crews score v : ℕ} {a b : NumSet} → ((j : ℕ) → a j ≡ b j) → Floor p u t k need crews a score v → Floor p u t k need crews b score v
  floor_bars same h = record {
    below = λ x may. h.below x (record { enough = may.enough; few = may.few; free = λ i l e. same i ∙ may.free i l e; clear = may.clear });
  }

  -- the capacities fall short of the need: nobody may be out, and everything is at most that
  pub floor_short : {k need crews score v : ℕ} {bar : NumSet} → sum_to k (p.capacity t) < need → Floor p u t k need crews bar score v
  floor_short {k} short = record {
    below = λ x may. let m = may.enough in absurd (omega (arith, sum_split k x (p.capacity t)));
  }

  -- a saving of so many units is at most so many times the highest price
  saved_few : (k top : ℕ) (x never : NumSet) → ((i : ℕ) → i < k → never i ≡ false → u t i ≤ top) → ((i : ℕ) → i < k → x i ≡ true → never i ≡ false)
      → sum_to k (only_in x (u t)) ≤ sum_to k (only_in x counts_one) * top
  unfolding sum_to counts_one
  saved_few zero top x never high free = omega (arith, zero-mul top)
  saved_few (suc k) top x never high free =
      by (x k) refl (saved_few k top x never (λ i l. high i (omega arith)) (λ i l. free i (omega arith)))
    where
      by : (b : Bool) → x k ≡ b → sum_to k (only_in x (u t)) ≤ sum_to k (only_in x counts_one) * top
          → sum_to k (only_in x (u t)) + only_in x (u t) k ≤ (sum_to k (only_in x counts_one) + only_in x counts_one k) * top
      by true e h =
          let z = high k (omega arith) (free k (omega arith) e) in
          rw ((out_term (u t) x k e).0, (out_term counts_one x k e).0) (omega (arith, add-mul (sum_to k (only_in x counts_one)) 1 top, one-mul top))
      by false e h =
          rw ((stay_term (u t) x k e).0, (stay_term counts_one x k e).0) (omega (arith, add-mul (sum_to k (only_in x counts_one)) 0 top, zero-mul top))

  -- all prices, less those of all units that may be out: or less as many of the highest as there are crews
  module _ (k need crews score : ℕ) (bar never : NumSet) (keeps : (i : ℕ) → never i ≡ true → bar i ≡ true) where
    open_of : (x : NumSet) → MayBeOut p t k need crews bar x → (i : ℕ) → i < k → x i ≡ true → never i ≡ false
    open_of x may i l e = by (never i) refl
      where
        by : (b : Bool) → never i ≡ b → never i ≡ false
        by true n = absurd (true_false (sym (keeps i n) ∙ may.free i l e))
        by false n = n

    pub floor_open : (v : ℕ) → v ≡ score + sum_to k (u t) - sum_to k (only_in (complement never) (u t)) → Floor p u t k need crews bar score v
    unfolding complement
    floor_open v h = record {
      below = λ x may.
          omega (arith, sum_split k x (u t), sum_subset k x (complement never) (u t) (λ i l e. ap not (open_of x may i l e)));
    }

    pub floor_crews : (v top : ℕ) → ((i : ℕ) → i < k → never i ≡ false → u t i ≤ top) → v ≡ score + sum_to k (u t) - crews * top
        → Floor p u t k need crews bar score v
    floor_crews v top high h = record {
      below = λ x may.
          let few = may.few in
          omega (arith, sum_split k x (u t), saved_few k top x never high (open_of x may), mul-le-mul_right top few);
    }

  -- ---- a unit stays or is out

  module _ (i need crews score v : ℕ) (bar : NumSet) (stays : Floor p u t i (need - p.capacity t i) crews bar (score + u t i) v)
      (leaves : bar i ≡ false → 0 < u t i → Floor p u t i need (crews - 1) (barred p i bar) score v) where
    -- the units below i of a set in which unit i stays
    staying : (x : NumSet) → MayBeOut p t (suc i) need crews bar x → need ≤ sum_to i (only_in (complement x) (p.capacity t)) + p.capacity t i
        → v ≤ score + u t i + sum_to i (only_in (complement x) (u t))
    unfolding sum_to
    staying x may enough = stays.below x (record {
      enough = omega arith;
      few = let f = may.few in omega arith;
      free = λ j l e. may.free j (omega arith) e;
      clear = λ j k l m e f. may.clear j k (omega arith) m e f;
    })

    -- and of one in which it is out
    leaving : (x : NumSet) → MayBeOut p t (suc i) need crews bar x → x i ≡ true → 0 < u t i → v ≤ score + sum_to i (only_in (complement x) (u t))
    unfolding sum_to barred counts_one
    leaving x may e pays = (leaves (may.free i (omega arith) e) pays).below x (record {
      enough = let m = may.enough in omega (arith, (out_term (p.capacity t) x i e).1);
      few = let f = may.few in omega (arith, (out_term counts_one x i e).0);
      free = λ j l f. rw (may.free j (omega arith) f, may.clear i j (omega arith) l e f) refl;
      clear = λ j k l m f g. may.clear j k (omega arith) m f g;
    })

    pub floor_turn : Floor p u t (suc i) need crews bar score v
    unfolding sum_to
    floor_turn = record { below = λ x may. by x may (x i) refl (u t i) refl }
      where
        by : (x : NumSet) → MayBeOut p t (suc i) need crews bar x → (b : Bool) → x i ≡ b → (n : ℕ) → u t i ≡ n
            → v ≤ score + (sum_to i (only_in (complement x) (u t)) + only_in (complement x) (u t) i)
        by x may false e n is =
            omega (arith, staying x may (let m = may.enough in omega (arith, (stay_term (p.capacity t) x i e).1)), (stay_term (u t) x i e).1)
        by x may true e zero is =
            omega (arith, staying x may (let m = may.enough in omega (arith, (out_term (p.capacity t) x i e).1)), (out_term (u t) x i e).1)
        by x may true e (suc n) is = omega (arith, leaving x may e (omega arith), (out_term (u t) x i e).1)
