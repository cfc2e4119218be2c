-- Dead ends: a larger set of units and a smaller limit; the rules that close a week.
-- Assumes nothing.
use Prim.Native.Nat.{ℕ, ◌≤◌, ◌<◌}
use mathlib.Core.Path.{◌≡◌, sym, ◌∙◌, ap, subst}
use mathlib.Core.Bool.{true, false}
use mathlib.Core.Logic.{◌⊎◌, inl, inr}
use native.Mathlib.Omega.{arith}
use Rattle.sums.specs.Sum.{counts_one}
use Rattle.sums.specs.NumSet.{NumSet}
use Rattle.sums.proofs.LogicLaws.{true_false}
use Rattle.sums.proofs.NumSetLaws.{sum_subset}
use Rattle.model.specs.Problem.{Problem, Fair}
use Rattle.model.specs.Rules.{headcount}
use Rattle.model.specs.Pairs.{apart}
use Rattle.model.specs.Schedule.{Schedule, in_span, out_in, Sound}
use Rattle.model.specs.Commitment.{NoRun}
use Rattle.model.proofs.CommitmentLaws.{fewer_out}
use Rattle.model.proofs.ScheduleLaws.{sound_plan}
use Rattle.blame.specs.Closed.{Agree, Closed}
use Rattle.blame.proofs.PairLaws.{PairOf, apart_pair}

-- ---- more units, a smaller limit

-- a dead end stays one with more units to blame, and below a smaller limit
pub closed_more : (p : Problem) (b c : NumSet) (starts : ℕ → ℕ) (limit small : ℕ) → ((i : ℕ) → i < p.units → b i ≡ true → c i ≡ true) → small ≤ limit
    → Closed p b starts limit → Closed p c starts small
closed_more p b c starts limit small more le closed = record {
  costs = λ s sound agree. omega (arith, closed.costs s sound (λ i h e. agree i h (more i h e)));
}

-- ---- the rules that close a week: a is a set of units that by their starts are out in week t

module _ (p : Problem) (a : NumSet) (starts : ℕ → ℕ) (t : ℕ) (fair : Fair p) (week : t < p.weeks)
    (outs : (i : ℕ) → i < p.units → a i ≡ true → out_in p starts t i ≡ true) where
  -- they are out in every schedule with these starts
  out_too : (s : Schedule) → Agree p a starts s.start → (i : ℕ) → i < p.units → a i ≡ true → out_in p s.start t i ≡ true
  unfolding out_in
  out_too s agree i h e = ap (λ (v : ℕ). in_span v (p.duration i) t) (agree i h e) ∙ outs i h e

  -- more units out than there are crews: a dead end, whatever the limit
  pub crews_closed : p.crews < headcount p a → (limit : ℕ) → Closed p a starts limit
  unfolding headcount
  crews_closed few limit = record {
    costs = λ s sound agree.
        absurd (omega (
          arith,
          sum_subset p.units a (out_in p s.start t) counts_one (out_too s agree),
          ((sound_plan p s fair sound).compatible t week).crewed,
        ));
  }

  -- both units of an excluded pair out: a dead end
  pub pair_closed : (i j : ℕ) → i < p.units → j < p.units → apart p i j ≡ true → a i ≡ true → a j ≡ true → (limit : ℕ) → Closed p a starts limit
  pair_closed i j hi hj e ai aj limit = record { costs = λ s sound agree. absurd (go s sound agree (apart_pair p i j e)) }
    where
      never : (s : Schedule) → Sound p s → Agree p a starts s.start → (n : ℕ) → n < p.pairs → (x y : ℕ) → x < p.units → y < p.units
          → a x ≡ true → a y ≡ true → p.pair_a n ≡ x → p.pair_b n ≡ y → ⊥
      never s sound agree n below x y hx hy ax ay qx qy =
          true_false
          (sym (out_too s agree y hy ay)
          ∙ subst (λ (z : ℕ). out_in p s.start t z ≡ false) qy
          (((sound_plan p s fair sound).compatible t week).apart n below (ap (out_in p s.start t) qx ∙ out_too s agree x hx ax)))

      go : (s : Schedule) → Sound p s → Agree p a starts s.start → PairOf p i j → ⊥
      go s sound agree pair = ends pair.ends
        where
          ends : ((p.pair_a pair.at ≡ i) × (p.pair_b pair.at ≡ j)) ⊎ ((p.pair_a pair.at ≡ j) × (p.pair_b pair.at ≡ i)) → ⊥
          ends (inl q) = never s sound agree pair.at pair.below i j hi hj ai aj q.0 q.1
          ends (inr q) = never s sound agree pair.at pair.below j i hj hi aj ai q.0 q.1

  -- no run of the units not out meets the demand: a dead end
  pub demand_closed : NoRun p t a → (limit : ℕ) → Closed p a starts limit
  demand_closed none limit = record {
    costs = λ s sound agree.
        absurd (none (s.run t) (fewer_out p t a (out_in p s.start t) (out_too s agree) (s.run t) ((sound_plan p s fair sound).serves t week)));
  }
