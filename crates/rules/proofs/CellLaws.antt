-- The formulas at one week, unit or pair, from what the code reads there: each body's value by the branch taken.
-- Assumes nothing.
use Prim.Native.Nat.{ℕ, ◌+◌, ◌*◌, ◌≤◌, ◌<◌}
use mathlib.Core.Path.{◌≡◌, refl, sym}
use mathlib.Core.Bool.{Bool, true, false, not}
use mathlib.Core.List.{List}
use mathlib.Core.Logic.{⊎_elim}
use lib.ListN.{get_or}
use lib.Dec.{ltb, leb, eqb}
use borrow.Author.Tests.{lt-ltb, le-ltb, le-leb, lt-leb, eq-eqb, ne_eqb}
use Rattle.sums.specs.Logic.{implies}
use Rattle.sums.specs.Sum.{sum_to, counts_one}
use Rattle.sums.specs.NumSet.{only_in}
use Rattle.sums.proofs.LogicLaws.{lt_or_ge}
use Rattle.sums.proofs.LoopLaws.{sum_ended}
use Rattle.model.specs.Problem.{Problem}
use Rattle.model.specs.Grid.{States, cell, is_on, is_maint}
use Rattle.model.specs.Rules.{output, headcount, ok1, ok2, ok3, ok7, ok8}

-- the byte at a cell's place is its state
pub cell_read : (g : List ℕ) (u t i q : ℕ) → q ≡ t * u + i → get_or g q 0 ≡ cell u g t i
unfolding cell
cell_read g u t i q e = rw e

-- ---- the term of a unit by its state s

module _ (x : States) (t i s : ℕ) (e : s ≡ x t i) where
  -- a unit ON adds its term
  pub on_adds : (f : ℕ → ℕ) (r : ℕ) → s ≡ 1 → r ≡ f i → r ≡ only_in (is_on x t) f i
  unfolding only_in is_on
  on_adds f r h is = simp (← e, eq-eqb s 1 h) is

  -- any other none
  pub off_adds : (f : ℕ → ℕ) → (s ≡ 1 → ⊥) → 0 ≡ only_in (is_on x t) f i
  unfolding only_in is_on
  off_adds f h = simp (← e, ne_eqb s 1 h)

  -- a unit in maintenance counts one
  pub maint_counts : s ≡ 2 → 1 ≡ only_in (is_maint x t) counts_one i
  unfolding only_in is_maint counts_one
  maint_counts h = simp (← e, eq-eqb s 2 h)

  -- any other none
  pub other_counts : (s ≡ 2 → ⊥) → 0 ≡ only_in (is_maint x t) counts_one i
  unfolding only_in is_maint counts_one
  other_counts h = simp (← e, ne_eqb s 2 h)

-- the number of units in maintenance in a week, counted over all units
pub headcount_ended : (p : Problem) (x : States) (t u k a : ℕ) → p.units ≡ u → k ≤ u → u ≤ k
    → a ≡ sum_to k (only_in (is_maint x t) counts_one) → a ≡ headcount p (is_maint x t)
unfolding headcount
headcount_ended p x t u k a units h g e = rw units (sum_ended _ k u a e h g)

-- ---- the bodies

implies_true : (b : Bool) → implies b true ≡ true
implies_true true = refl
implies_true false = refl

-- a test denied is the test the other way round
not_less : (a b : ℕ) → leb b a ≡ implies (ltb a b) false
not_less a b = ⊎_elim (λ (h : a < b). simp (lt-leb b a h, lt-ltb a b h)) (λ (h : b ≤ a). simp (le-leb b a h, le-ltb a b h)) (lt_or_ge a b)

not_most : (a b : ℕ) → ltb b a ≡ implies (leb a b) false
not_most a b = ⊎_elim (λ (h : b < a). simp (lt-ltb b a h, lt-leb a b h)) (λ (h : a ≤ b). simp (le-ltb b a h, le-leb a b h)) (lt_or_ge b a)

module _ (p : Problem) (x : States) (t : ℕ) where
  -- (1)
  pub demand_met : (due made : ℕ) → due ≡ p.demand t → made ≡ output p t (is_on x t) → leb due made ≡ ok1 p x t
  unfolding ok1
  demand_met due made d m = rw (d, m)

  -- (7)
  pub crews_enough : (out crews : ℕ) → out ≡ headcount p (is_maint x t) → crews ≡ p.crews → leb out crews ≡ ok7 p x t
  unfolding ok7
  crews_enough out crews o c = rw (o, c)

  module _ (i : ℕ) where
    -- (2) any state but MAINT will do
    pub early_other : (s : ℕ) → (s ≡ 2 → ⊥) → s ≡ x t i → true ≡ ok2 p x t i
    unfolding ok2 is_maint
    early_other s n same = sym (simp (← same, ne_eqb s 2 n) (implies_true (ltb (t + 1) (p.earliest i))))

    -- and MAINT from the earliest start on
    pub early_maint : (s e : ℕ) → s ≡ 2 → s ≡ x t i → e ≡ p.earliest i → leb e (t + 1) ≡ ok2 p x t i
    unfolding ok2 is_maint
    early_maint s e h same is = simp (← same, eq-eqb s 2 h, ← is) (not_less (t + 1) e)

    -- (3) any state but MAINT will do
    pub late_other : (s : ℕ) → (s ≡ 2 → ⊥) → s ≡ x t i → true ≡ ok3 p x t i
    unfolding ok3 is_maint
    late_other s n same = sym (simp (← same, ne_eqb s 2 n) (implies_true (leb (p.latest i + p.duration i) (t + 1))))

    -- and MAINT before the latest start's end
    pub late_maint : (s e d : ℕ) → s ≡ 2 → s ≡ x t i → e ≡ p.latest i → d ≡ p.duration i → ltb (t + 1) (e + d) ≡ ok3 p x t i
    unfolding ok3 is_maint
    late_maint s e d h same is ds = simp (← same, eq-eqb s 2 h, ← is, ← ds) (not_most (e + d) (t + 1))

  module _ (n : ℕ) where
    -- (8) where the lower unit is not in maintenance
    pub pair_free : (a s : ℕ) → a ≡ p.pair_a n → s ≡ x t a → (s ≡ 2 → ⊥) → true ≡ ok8 p x t n
    unfolding ok8 is_maint
    pair_free a s is same h = simp (← is, ← same, ne_eqb s 2 h)

    -- where it is, the higher unit decides
    pub pair_state : (a b s v : ℕ) → a ≡ p.pair_a n → s ≡ x t a → s ≡ 2 → b ≡ p.pair_b n → v ≡ x t b → not (eqb v 2) ≡ ok8 p x t n
    unfolding ok8 is_maint
    pair_state a b s v is same h bs vs = simp (← is, ← same, eq-eqb s 2 h, ← bs, ← vs)
