-- Facts behind the worked figures that hold for every problem, grid and schedule (P6, P8 to P10, and document 01, "Grids and the judge").
-- Assumes nothing.
use Rattle.std.specs.Prelude.{ℕ, ◌≤◌, ◌<◌, ◌≡◌, true, false}
use Rattle.model.specs.Problem.{Problem}
use Rattle.model.specs.Grid.{States, is_maint}
use Rattle.model.specs.Rules.{unit4, unit5, keeps1, keeps2, keeps3, keeps4, keeps5, broken}
use Rattle.model.specs.Schedule.{Schedule, Sound}

-- P6: one week, one unit and a demand; none, whatever capacity and costs are
abbrev pub OneUnit : Type 0
OneUnit = (p : Problem) → p.weeks ≡ 1 → p.units ≡ 1 → 1 ≤ p.demand 0 → (s : Schedule) → Sound p s → ⊥

-- P8: one week, one crew, two units or more; none
abbrev pub OneCrew : Type 0
OneCrew = (p : Problem) → p.weeks ≡ 1 → p.crews ≡ 1 → 2 ≤ p.units → (s : Schedule) → Sound p s → ⊥

-- P9: a unit with MAINT in weeks 1 and 3 and not in week 2, (1) to (3) kept: rule 4, whatever its duration and the other weeks
abbrev pub Gapped : Type 0
Gapped = (p : Problem) (x : States) (i : ℕ) → i < p.units → 3 ≤ p.weeks
    → is_maint x 0 i ≡ true → is_maint x 1 i ≡ false → is_maint x 2 i ≡ true
    → keeps1 p x ≡ true → keeps2 p x ≡ true → keeps3 p x ≡ true → broken p x ≡ 4

-- P10: a unit without MAINT, (1) to (5) kept: rule 6
abbrev pub Idle : Type 0
Idle = (p : Problem) (x : States) (i : ℕ) → i < p.units → ((t : ℕ) → t < p.weeks → is_maint x t i ≡ false)
    → keeps1 p x ≡ true → keeps2 p x ≡ true → keeps3 p x ≡ true → keeps4 p x ≡ true → keeps5 p x ≡ true → broken p x ≡ 6

-- and it breaks neither (4) nor (5), whatever the other units do
abbrev pub IdleKeeps : Type 0
IdleKeeps = (p : Problem) (x : States) (i : ℕ) → ((t : ℕ) → t < p.weeks → is_maint x t i ≡ false)
    → ((t : ℕ) → t < p.weeks → unit4 p x i t ≡ true) × (unit5 p x i ≡ true)

-- all of them
abbrev pub General : Type 0
General = OneUnit × OneCrew × Gapped × Idle × IdleKeeps
