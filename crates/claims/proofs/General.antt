-- The facts for every problem: a formula at one week or one unit, taken out of the test of all.
-- Assumes nothing.
use Prim.Native.Nat.{ℕ, ◌+◌, ◌-◌, ◌≤◌, ◌<◌}
use mathlib.Core.Path.{◌≡◌, refl, sym, ◌∙◌, subst}
use mathlib.Core.Bool.{true, false, ◌&&◌}
use native.Mathlib.Omega.{arith}
use lib.Dec.{ltb, eqb}
use borrow.Author.Tests.{leb-true}
use Rattle.sums.specs.Sum.{sum_to, counts_one}
use Rattle.sums.specs.Range.{all_to, first_to}
use Rattle.sums.specs.NumSet.{only_in}
use Rattle.sums.proofs.LogicLaws.{true_false, and_of, and_left, implies_at, implies_of, not_so}
use Rattle.sums.proofs.SumLaws.{sum_cut, sum_zero}
use Rattle.sums.proofs.RangeLaws.{all_at, table_at, table_of, first_is}
use Rattle.model.specs.Problem.{Problem}
use Rattle.model.specs.Grid.{States, is_on, is_maint}
use Rattle.model.specs.Rules.{output, headcount, ok1, ok4, unit4, keeps4, not_out, is_first, is_last, ok5, unit5, out_at, unit6, keeps6, ok7, broken}
use Rattle.model.specs.Schedule.{lay_out}
use Rattle.model.proofs.RuleLaws.{Rules, broken_none, units_keep, weeks_keep}
use Rattle.model.proofs.ScheduleLaws.{maint_not_on}
use Rattle.claims.specs.General.{OneUnit, OneCrew, Gapped, Idle, IdleKeeps, General}

-- ---- one week

-- by (6) every unit is in maintenance in it
out_in_it : (p : Problem) (x : States) (i : ℕ) → p.weeks ≡ 1 → Rules p x → i < p.units → is_maint x 0 i ≡ true
unfolding unit6 out_at
out_in_it p x i w r h =
    let f = first_is p.weeks (out_at p x i) (units_keep p x r.units i h).six in
    let k : first_to p.weeks (out_at p x i) ≡ 0 = let l = f.below in omega arith in
    subst (λ (t : ℕ). is_maint x t i ≡ true) k f.holds

-- so a single unit gives nothing
one_unit : OneUnit
unfolding ok1 output only_in
one_unit p w u d s sound =
    let x = lay_out p s in
    let r = broken_none p x sound.keeps in
    let meets = leb-true (p.demand 0) (output p 0 (is_on x 0)) (weeks_keep p x r.weeks 0 (omega arith)).first in
    let nothing = sum_zero p.units (only_in (is_on x 0) (p.capacity 0)) (λ i l. rw (maint_not_on x 0 i (out_in_it p x i w r l))) in
    omega arith

-- and two units want two crews
one_crew : OneCrew
unfolding ok7 headcount sum_to only_in counts_one
one_crew p w m u s sound =
    let x = lay_out p s in
    let r = broken_none p x sound.keeps in
    let few = leb-true (headcount p (is_maint x 0)) p.crews (weeks_keep p x r.weeks 0 (omega arith)).seven in
    let cut = sum_cut 2 (p.units - 2) (only_in (is_maint x 0) counts_one) in
    let all : 2 + (p.units - 2) ≡ p.units = omega arith in
    let both : sum_to 2 (only_in (is_maint x 0) counts_one) ≡ 2 = rw (out_in_it p x 0 w r (omega arith), out_in_it p x 1 w r (omega arith)) in
    let cut2 = rw all at cut in
    omega arith

-- ---- a gap, and no maintenance at all

-- weeks 1 and 3 without week 2 break (4)
gap_breaks : (p : Problem) (x : States) (i : ℕ) → i < p.units → 3 ≤ p.weeks → is_maint x 0 i ≡ true → is_maint x 1 i ≡ false → is_maint x 2 i ≡ true
    → keeps4 p x ≡ true → ⊥
unfolding keeps4 unit4 ok4
gap_breaks p x i h w a b c e =
    let four : unit4 p x i 2 ≡ true = table_at p.units p.weeks (unit4 p x) e i 2 h (omega arith) in
    let joined = table_at 2 2 (ok4 p x i 2) four 0 1 (omega arith) (omega arith) in
    let ends = and_of (is_maint x 0 i && is_maint x 2 i) (ltb 0 1) (and_of (is_maint x 0 i) (is_maint x 2 i) a c) refl in
    true_false (sym (implies_at (is_maint x 0 i && is_maint x 2 i && ltb 0 1) (is_maint x 1 i) joined ends) ∙ b)

-- a unit without MAINT breaks (6)
idle_breaks : (p : Problem) (x : States) (i : ℕ) → i < p.units → ((t : ℕ) → t < p.weeks → is_maint x t i ≡ false) → keeps6 p x ≡ true → ⊥
unfolding keeps6 unit6 out_at
idle_breaks p x i h out e =
    let f = first_is p.weeks (out_at p x i) (all_at p.units (unit6 p x) e i h) in
    true_false (sym f.holds ∙ out (first_to p.weeks (out_at p x i)) f.below)

gapped : Gapped
unfolding broken
gapped p x i h w a b c k1 k2 k3 = rw (k1, k2, k3, not_so (keeps4 p x) (gap_breaks p x i h w a b c))

idle : Idle
unfolding broken
idle p x i h out k1 k2 k3 k4 k5 = rw (k1, k2, k3, k4, k5, not_so (keeps6 p x) (idle_breaks p x i h out))

-- nor is there a week of MAINT that (4) or (5) could start from
module _ (p : Problem) (x : States) (i : ℕ) (out : (t : ℕ) → t < p.weeks → is_maint x t i ≡ false) where
  idle_four : (t2 : ℕ) → t2 < p.weeks → unit4 p x i t2 ≡ true
  unfolding unit4 ok4
  idle_four t2 l =
      table_of t2 t2 (ok4 p x i t2) (λ t1 t a b.
      implies_of (is_maint x t1 i && is_maint x t2 i && ltb t1 t) (is_maint x t i) (λ e.
      let both = and_left (is_maint x t1 i && is_maint x t2 i) (ltb t1 t) e in
      true_false (sym (and_left (is_maint x t1 i) (is_maint x t2 i) both) ∙ out t1 (omega arith))))

  idle_five : unit5 p x i ≡ true
  unfolding unit5 ok5 is_first
  idle_five =
      table_of p.weeks p.weeks (ok5 p x i) (λ t1 t2 a b.
      implies_of (is_first p x i t1 && is_last p x i t2) (eqb (t2 + 1) (t1 + p.duration i)) (λ e.
      let first = and_left (is_first p x i t1) (is_last p x i t2) e in
      true_false (sym (and_left (is_maint x t1 i) (all_to t1 (not_out p x i)) first) ∙ out t1 a)))

idle_keeps : IdleKeeps
idle_keeps p x i out = (idle_four p x i out, idle_five p x i out)

pub general : General
general = (one_unit, one_crew, gapped, idle, idle_keeps)
