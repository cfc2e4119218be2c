-- The lower bound at any prices: what every sound schedule with the starts of some units costs at least; and what all units' starts cost.
-- Assumes nothing.
use Prim.Native.Nat.{ℕ, ◌+◌, ◌≤◌, ◌<◌}
use mathlib.Core.Path.{◌≡◌, refl, sym, ◌∙◌, ap}
use mathlib.Core.Bool.{Bool, true, false, not}
use native.Mathlib.Omega.{arith}
use Rattle.sums.specs.Logic.{if}
use Rattle.sums.specs.Sum.{sum_to, added, transposed, row_sum}
use Rattle.sums.specs.NumSet.{NumSet, only_in, parts, complement}
use Rattle.sums.proofs.LogicLaws.{and_left, and_right}
use Rattle.sums.proofs.SumLaws.{sum_mono, sum_same, sum_added, exchange}
use Rattle.sums.proofs.NumSetLaws.{sum_split}
use Rattle.model.specs.Problem.{Problem, Fair}
use Rattle.model.specs.Schedule.{Schedule, in_span, out_in, IsRun}
use Rattle.model.specs.Commitment.{Pick, nothing, picked, IsPick, Serves, full_cost, off_cost, out_cost, pick_cost, least_cost, full_least, cheapest_run}
use Rattle.model.specs.Plan.{Plan, upkeep, upkeep_at, run_cost_at, plan_cost}
use Rattle.model.proofs.CommitmentLaws.{fewer_out, cheapest_right, cheapest_fewer, run_full}
use Rattle.model.proofs.ScheduleLaws.{sound_plan, cost_plan}
use Rattle.blame.specs.Closed.{Agree, Closed}
use Rattle.blame.specs.Placed.{out_of, week_paid, paid}
use Rattle.blame.specs.Priced.{priced, price_sum, off_sum, unit_bound, lower_bound, LeastPriced, WeekLeast}

-- ---- sums

-- a term with a price, or another: each over its own numbers
sum_parts : (n : ℕ) (a : NumSet) (f g h : ℕ → ℕ)
    → sum_to n (parts a (added f g) h) ≡ sum_to n (only_in a f) + sum_to n (only_in (complement a) h) + sum_to n (only_in a g)
unfolding parts only_in complement added
sum_parts n a f g h =
    sum_same n (parts a (added f g) h) (added (added (only_in a f) (only_in (complement a) h)) (only_in a g)) (λ k l. go k (a k))
    ∙ (sum_added n (added (only_in a f) (only_in (complement a) h)) (only_in a g) ∙ ap (λ (z : ℕ). z + sum_to n (only_in a g)) (sum_added n (only_in a f) (only_in (complement a) h)))
  where
    go : (k : ℕ) (b : Bool) → if b (f k + g k) (h k) ≡ if b (f k) 0 + if (not b) (h k) 0 + if b (g k) 0
    go k true = omega arith
    go k false = omega arith

-- ---- a week's cheapest run

-- a run with these units out, and others, costs no less than the cheapest with these out, OFF charged to the units out
pub least_below : (p : Problem) (t : ℕ) (a out : NumSet) (r : ℕ) → ((i : ℕ) → i < p.units → a i ≡ true → out i ≡ true) → Serves p t out r
    → full_least p t a ≤ full_cost p t r
unfolding full_least pick_cost
least_below p t a out r fewer serves = go (cheapest_run p t a) (cheapest_right p t a)
  where
    go : (f : Pick) → IsPick p t a f → pick_cost (full_cost p t) f ≤ full_cost p t r
    go nothing none = absurd (none r (fewer_out p t a out fewer r serves))
    go (picked q) c = cheapest_fewer p t a out fewer q r c serves

-- so at any prices its cost is a bound of the week
pub week_plain : (p : Problem) (u : ℕ → ℕ → ℕ) (t : ℕ) (a : NumSet) → WeekLeast p u t a (full_least p t a)
week_plain p u t a = record { below = λ out r compatible more serves. omega (arith, least_below p t a out r more serves) }

-- ---- the bound, at any prices

-- prices of the units that are out in week t
abbrev out_price : Problem → (ℕ → ℕ → ℕ) → (ℕ → ℕ) → ℕ → ℕ → ℕ
out_price p u starts t = only_in (out_in p starts t) (u t)

-- OFF costs of the units that are not out in week t
abbrev off_part : Problem → (ℕ → ℕ) → ℕ → ℕ → ℕ
off_part p starts t = only_in (complement (out_in p starts t)) (p.off t)

module _ (p : Problem) (u : ℕ → ℕ → ℕ) (s : Schedule) where
  -- all units' priced costs are their costs, OFF in the other weeks, and the prices of the weeks
  units_priced : sum_to p.units (λ i. priced p u i (s.start i))
      ≡ sum_to p.units (upkeep_at p s.start) + sum_to p.weeks (row_sum p.units (off_part p s.start))
      + sum_to p.weeks (row_sum p.units (out_price p u s.start))
  unfolding priced upkeep upkeep_at row_sum transposed added only_in complement out_in
  units_priced =
      sum_same p.units (λ i. priced p u i (s.start i))
      (added (added (upkeep_at p s.start) (row_sum p.weeks (transposed (off_part p s.start)))) (row_sum p.weeks (transposed (out_price p u s.start))))
      (λ i h. sum_parts p.weeks (in_span (s.start i) (p.duration i)) (transposed p.maint i) (transposed u i) (transposed p.off i))
      ∙ (sum_added p.units (added (upkeep_at p s.start) (row_sum p.weeks (transposed (off_part p s.start))))
      (row_sum p.weeks (transposed (out_price p u s.start)))
      ∙ omega (
        arith,
        sum_added p.units (upkeep_at p s.start) (row_sum p.weeks (transposed (off_part p s.start))),
        exchange p.weeks p.units (off_part p s.start),
        exchange p.weeks p.units (out_price p u s.start),
      ))

  -- a run with all other units OFF, and the OFF costs of the units not out: the run's cost and all OFF costs of the week
  week_full : (t : ℕ) → IsRun p (out_in p s.start t) (s.run t)
      → full_cost p t (s.run t) + sum_to p.units (off_part p s.start t) ≡ run_cost_at p s.start s.run t + sum_to p.units (p.off t)
  unfolding run_cost_at off_cost
  week_full t is = omega (
    arith,
    run_full p t (out_in p s.start t) (s.run t) is,
    sum_split p.units (out_in p s.start t) (p.off t),
  )

  weeks_full : Plan p s → sum_to p.weeks (λ t. full_cost p t (s.run t)) + sum_to p.weeks (row_sum p.units (off_part p s.start))
      ≡ sum_to p.weeks (run_cost_at p s.start s.run) + off_sum p
  unfolding off_sum added row_sum
  weeks_full plan =
      sym (sum_added p.weeks (λ t. full_cost p t (s.run t)) (row_sum p.units (off_part p s.start)))
      ∙ (sum_same p.weeks (added (λ t. full_cost p t (s.run t)) (row_sum p.units (off_part p s.start)))
      (added (run_cost_at p s.start s.run) (row_sum p.units p.off)) (λ t l. week_full t (plan.serves t l).run)
      ∙ sum_added p.weeks (run_cost_at p s.start s.run) (row_sum p.units p.off))

  module _ (b : NumSet) (starts least v : ℕ → ℕ) (plan : Plan p s) (agree : Agree p b starts s.start) where
    units_below : LeastPriced p u least → sum_to p.units (unit_bound p u b starts least) ≤ sum_to p.units (λ i. priced p u i (s.start i))
    unfolding unit_bound
    units_below le = sum_mono p.units (unit_bound p u b starts least) (λ i. priced p u i (s.start i)) (λ i h. go i h (b i) refl)
      where
        go : (i : ℕ) → i < p.units → (c : Bool) → b i ≡ c → if c (priced p u i (starts i)) (least i) ≤ priced p u i (s.start i)
        go i h true e = rw (agree i h e) (omega arith)
        go i h false e = le.below i (s.start i) h (plan.permits i h)

    out_too : (t i : ℕ) → i < p.units → out_of p b starts t i ≡ true → out_in p s.start t i ≡ true
    unfolding out_of out_in
    out_too t i h e =
        ap (λ (z : ℕ). in_span z (p.duration i) t) (agree i h (and_left (b i) (in_span (starts i) (p.duration i) t) e))
        ∙ and_right (b i) (in_span (starts i) (p.duration i) t) e

    weeks_below : ((t : ℕ) → t < p.weeks → WeekLeast p u t (out_of p b starts t) (v t))
        → sum_to p.weeks v + sum_to p.weeks (row_sum p.units (out_price p u s.start)) ≤ sum_to p.weeks (λ t. full_cost p t (s.run t)) + price_sum p u
    unfolding price_sum added row_sum
    weeks_below w =
        let a = sum_added p.weeks v (row_sum p.units (out_price p u s.start)) in
        let c = sum_added p.weeks (λ t. full_cost p t (s.run t)) (row_sum p.units u) in
        let d = sum_mono p.weeks (added v (row_sum p.units (out_price p u s.start))) (added (λ t. full_cost p t (s.run t)) (row_sum p.units u))
        week in
        omega (arith, a, c, d)
      where
        week : (t : ℕ) → t < p.weeks → v t + sum_to p.units (out_price p u s.start t) ≤ full_cost p t (s.run t) + sum_to p.units (u t)
        week t l = omega (
          arith,
          (w t l).below (out_in p s.start t) (s.run t) (plan.compatible t l) (out_too t) (plan.serves t l),
          sum_split p.units (out_in p s.start t) (u t),
        )

    bound_below : LeastPriced p u least → ((t : ℕ) → t < p.weeks → WeekLeast p u t (out_of p b starts t) (v t))
        → lower_bound p u b starts least v ≤ plan_cost p s + off_sum p + price_sum p u
    unfolding lower_bound plan_cost
    bound_below le w = omega (arith, units_below le, weeks_below w, units_priced, weeks_full plan)

-- starts of any set of units, whose bound less all OFF costs and all prices comes to the limit, are a dead end
pub priced_closed : (p : Problem) (u : ℕ → ℕ → ℕ) (b : NumSet) (starts least v : ℕ → ℕ) (limit : ℕ) → Fair p → LeastPriced p u least
    → ((t : ℕ) → t < p.weeks → WeekLeast p u t (out_of p b starts t) (v t)) → limit + off_sum p + price_sum p u ≤ lower_bound p u b starts least v
    → Closed p b starts limit
priced_closed p u b starts least v limit fair le w h = record {
  costs = λ s sound agree. omega (arith, bound_below p u s b starts least v (sound_plan p s fair sound) agree le w, cost_plan p s sound.schedule);
}

-- ---- all units placed

module _ (p : Problem) (starts : ℕ → ℕ) where
  -- the maintenance of all weeks is that of the overhauls
  out_upkeep : sum_to p.weeks (λ t. out_cost p t (out_in p starts t)) ≡ sum_to p.units (upkeep_at p starts)
  unfolding out_cost upkeep_at upkeep row_sum transposed only_in out_in
  out_upkeep = exchange p.weeks p.units (λ t. only_in (out_in p starts t) (p.maint t))

  -- so what the starts cost is their overhauls and the weeks' cheapest runs
  pub paid_parts : paid p (out_in p starts) ≡ sum_to p.units (upkeep_at p starts) + sum_to p.weeks (λ t. least_cost p t (out_in p starts t))
  unfolding paid week_paid added
  paid_parts =
      sum_added p.weeks (λ t. out_cost p t (out_in p starts t)) (λ t. least_cost p t (out_in p starts t))
      ∙ ap (λ (a : ℕ). a + sum_to p.weeks (λ t. least_cost p t (out_in p starts t))) out_upkeep
