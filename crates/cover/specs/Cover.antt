-- A need covered by free units at the least weight; in the field, the minimum knapsack cover. What a cover is, which weight is the least,
-- and the depth-first choice that finds it. A week's cheapest run is such a cover of the demand.
-- Assumes nothing.
use Rattle.std.specs.Prelude.{ℕ, zero, suc, ◌+◌, ◌-◌, ◌≤◌, ◌<◌, ◌≡◌, true, ◌&&◌, ltb, eqb}
use Rattle.sums.specs.Logic.{if}
use Rattle.sums.specs.Sum.{sum_to}
use Rattle.sums.specs.NumSet.{NumSet, only_in}

-- the units of z below k are free, and together they give what is needed
pub record Covers (free : NumSet) (gives : ℕ → ℕ) (k need : ℕ) (z : NumSet) : Type 0 where
  pub allowed : (i : ℕ) → i < k → z i ≡ true → free i ≡ true
  pub enough : need ≤ sum_to k (only_in z gives)

-- v is what some cover weighs, on top of `from`
pub record Reached (free : NumSet) (gives weighs : ℕ → ℕ) (k need from v : ℕ) : Type 0 where
  pub set : NumSet
  pub covers : Covers free gives k need set
  pub weight : v ≡ from + sum_to k (only_in set weighs)

-- 2 ^ 44: stands for the weight where nothing covers
abbrev pub UNCOVERED : ℕ
UNCOVERED = 17592186044416

-- r is what some cover weighs, or UNCOVERED
pub record Candidate (free : NumSet) (gives weighs : ℕ → ℕ) (k need r : ℕ) : Type 0 where
  pub most : r ≤ UNCOVERED
  pub reached : r < UNCOVERED → Reached free gives weighs k need 0 r

-- and no cover weighs less
pub record LeastCover (free : NumSet) (gives weighs : ℕ → ℕ) (k need r : ℕ) : Type 0 where
  pub candidate : Candidate free gives weighs k need r
  pub least : (z : NumSet) → Covers free gives k need z → r ≤ sum_to k (only_in z weighs)

-- a chosen set of this weight against the best so far: it counts where nothing more is needed, and only where it weighs less
unfoldable pub lighter_cover : (need weight best : ℕ) → ℕ
lighter_cover need weight best = if (eqb need 0 && ltb weight best) weight best

-- the best weight after all choices among the units below k, from the highest down, each first left out and then, where it is free, taken
unfoldable pub cover_to : (free : NumSet) (gives weighs : ℕ → ℕ) → (k need weight best : ℕ) → ℕ
unfolding lighter_cover
cover_to free gives weighs zero need weight best = lighter_cover need weight best
cover_to free gives weighs (suc k) need weight best =
    if (free k)
    (cover_to free gives weighs k (need - gives k) (weight + weighs k) (cover_to free gives weighs k need weight best))
    (cover_to free gives weighs k need weight best)
