-- How many places a walk has passed when it tries a start, how many lie below it, and that these fall at each call of the walk.
-- Assumes nothing.
use Prim.Native.Nat.{ℕ, zero, suc, ◌+◌, ◌-◌, ◌*◌, ◌≤◌, ◌<◌}
use mathlib.Core.Path.{◌≡◌, ◌∙◌, ap}
use mathlib.Core.List.{List}
use native.Mathlib.Nat.{mul-le-mul_right, one-mul}
use native.Mathlib.Numerals.{add-one}
use native.Mathlib.Omega.{arith}
use lib.ListN.{length, set}
use lib.Seq.{get_or-set_same, get_or-set_other}
use Rattle.sums.specs.Sum.{sum_to}
use Rattle.sums.specs.Table.{entry}
use Rattle.sums.proofs.SumLaws.{sum_suc, sum_same}
use Rattle.model.specs.Problem.{Problem}
use Rattle.model.specs.Domain.{starts_below, start_count}
use Rattle.model.specs.Order.{Same}
use Rattle.model.specs.Prefix.{tree_size, passed_at, passed}
use Rattle.overhaul.specs.Range.{StartRange}
use Rattle.overhaul.proofs.StartLaws.{below_start}
use Rattle.walk.specs.Walk.{try_room, place_room}

-- ---- an array in which one start is replaced

-- the start that was put
pub put_here : (xs : List ℕ) (j v : ℕ) → j < length xs → entry (set xs j v) j ≡ v
unfolding entry
put_here xs j v long = get_or-set_same xs j v 0 long

-- the others
pub put_other : (xs : List ℕ) (j v i : ℕ) → (i ≡ j → ⊥) → entry (set xs j v) i ≡ entry xs i
unfolding entry
put_other xs j v i ne = get_or-set_other xs j i v 0 ne

-- those before it
pub put_below : (xs : List ℕ) (j v : ℕ) → Same j (entry (set xs j v)) (entry xs)
put_below xs j v k l = put_other xs j v k (λ e. omega arith)

-- ---- places below

-- the place itself is one
pub tree_some : (p : Problem) (n : ℕ) → 0 < tree_size p n
unfolding tree_size
tree_some p zero = omega arith
tree_some p (suc n) = omega arith

-- a place, and those below it
pub room_step : (p : Problem) (j : ℕ) → try_room p j ≡ place_room p (j + 1) + 1
room_step p j =
    let e : p.units - suc j ≡ p.units - (j + 1) = omega arith in
    omega (arith, ap (tree_size p) e, tree_some p (p.units - (j + 1)))

-- below a place lie its unit's starts, each with the places at and below it
pub room_starts : (p : Problem) (j : ℕ) → j < p.units → place_room p j ≡ start_count p j * try_room p j
unfolding tree_size
room_starts p j h =
    let e : p.units - j ≡ suc (p.units - suc j) = omega arith in
    let u : p.units - suc (p.units - suc j) ≡ j = omega arith in
    let t : tree_size p (p.units - j) ≡ start_count p j * try_room p j + 1
    = ap (tree_size p) e ∙ ap (λ (i : ℕ). start_count p i * tree_size p (p.units - suc j) + 1) u in
    omega (arith, t)

-- ---- places passed

passed_next : (p : Problem) (starts : ℕ → ℕ) (k : ℕ) → passed p starts (k + 1) ≡ passed p starts k + passed_at p starts k
unfolding passed
passed_next p starts k = ap (λ (n : ℕ). sum_to n (passed_at p starts)) (add-one k) ∙ sum_suc k (passed_at p starts)

-- places are passed by the starts before them
passed_agree : (p : Problem) (starts other : ℕ → ℕ) (k : ℕ) → Same k starts other → passed p starts k ≡ passed p other k
unfolding passed passed_at
passed_agree p starts other k same =
    sum_same k (passed_at p starts) (passed_at p other) (λ i l. ap (λ (v : ℕ). starts_below p i v * tree_size p (p.units - suc i) + 1) (same i l))

-- at start v of unit j: those before unit j, those below its smaller starts, and this one
pub passed_start : (p : Problem) (xs : List ℕ) (j first last v : ℕ) → StartRange p j first last → v ≤ last + 1 → j < length xs
    → passed p (entry (set xs j v)) (j + 1) ≡ passed p (entry xs) j + (v - first) * try_room p j + 1
unfolding passed_at
passed_start p xs j first last v range h long =
    let a = passed_next p (entry (set xs j v)) j in
    let b = passed_agree p (entry (set xs j v)) (entry xs) j (put_below xs j v) in
    let c : starts_below p j (entry (set xs j v) j) ≡ v - first = ap (starts_below p j) (put_here xs j v long)
    ∙ below_start p j first last range v h in
    let d : starts_below p j (entry (set xs j v) j) * try_room p j ≡ (v - first) * try_room p j = ap (λ (n : ℕ). n * try_room p j) c in
    omega (arith, a, b, d)

-- ---- the measure: the count of places remaining falls

-- from a unit to one of its starts
pub places_to_try : (p : Problem) (j : ℕ) → j < p.units → 0 < start_count p j → 2 * tree_size p (p.units - suc j) < 2 * tree_size p (p.units - j) - 1
unfolding tree_size
places_to_try p j h some =
    let e : p.units - j ≡ suc (p.units - suc j) = omega arith in
    let u : p.units - suc (p.units - suc j) ≡ j = omega arith in
    let t : tree_size p (p.units - j) ≡ start_count p j * tree_size p (p.units - suc j) + 1 =
    ap (tree_size p) e ∙ ap (λ (i : ℕ). start_count p i * tree_size p (p.units - suc j) + 1) u in
    let m : 1 * tree_size p (p.units - suc j) ≤ start_count p j * tree_size p (p.units - suc j) = mul-le-mul_right (tree_size p
    (p.units - suc j)) some in
    omega (arith, t, m, one-mul (tree_size p (p.units - suc j)))

-- from a start to the next unit
pub places_to_place : (p : Problem) (j : ℕ) → 2 * tree_size p (p.units - (j + 1)) - 1 < 2 * tree_size p (p.units - suc j)
places_to_place p j =
    let e : tree_size p (p.units - (j + 1)) ≡ tree_size p (p.units - suc j) = ap (tree_size p) (let g : p.units -
    (j + 1) ≡ p.units - suc j = omega arith in g) in
    omega (arith, e, tree_some p (p.units - suc j))
