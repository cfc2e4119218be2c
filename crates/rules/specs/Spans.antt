-- The weeks between which a unit is in maintenance.
-- Assumes nothing.
use Rattle.std.specs.Prelude.{ℕ, ◌-◌, ◌≤◌, ◌<◌, ◌≡◌, true, false}
use Rattle.model.specs.Grid.{States, is_maint}

-- a is the first of w weeks in which unit i is in maintenance, w where there is none
pub record FirstOut (w : ℕ) (x : States) (i a : ℕ) : Type 0 where
  pub most : a ≤ w
  pub none : (t : ℕ) → t < a → is_maint x t i ≡ false
  pub out : a < w → is_maint x a i ≡ true

-- b is the week after the last of them, 0 where there is none
pub record EndOut (w : ℕ) (x : States) (i b : ℕ) : Type 0 where
  pub most : b ≤ w
  pub none : (t : ℕ) → b ≤ t → t < w → is_maint x t i ≡ false
  pub out : 0 < b → is_maint x (b - 1) i ≡ true
