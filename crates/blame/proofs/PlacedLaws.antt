-- Units placed, a unit and a week at a time: who is out, what it costs so far; and the schedule of all units placed, which no other with these
-- starts undercuts.
-- Assumes nothing.
use Prim.Native.Nat.{ℕ, ◌+◌, ◌≤◌, ◌<◌}
use mathlib.Core.Path.{◌≡◌, refl, sym, ◌∙◌, ap, subst, fun_ext}
use mathlib.Core.Bool.{Bool, true, false, not, ◌&&◌, ◌||◌}
use mathlib.Core.Logic.{◌⊎◌, inl, inr, ⊎_elim}
use native.Mathlib.Decide.{ℕ_discrete}
use native.Mathlib.Nat.{eq-or-lt_of_le}
use native.Mathlib.Omega.{arith}
use lib.Dec.{ltb, eqb}
use borrow.Author.Tests.{ltb-true, lt-ltb, le-ltb, eq-eqb, ne_eqb}
use Rattle.sums.specs.Sum.{sum_to}
use Rattle.sums.specs.NumSet.{NumSet, complement, with}
use Rattle.sums.proofs.NumSetLaws.{pick_agree}
use Rattle.sums.proofs.LogicLaws.{and_last_false, and_last_true, or_last_false, or_right, not_so, same_test, ltb_total}
use Rattle.sums.proofs.SumLaws.{sum_mono, sum_same, sum_less}
pub use Rattle.sums.proofs.SumLaws.{sum_one}
use Rattle.model.specs.Problem.{Problem, Fair}
use Rattle.model.specs.Domain.{permitted}
use Rattle.model.specs.Schedule.{Schedule, in_span, out_in, Sound, cost}
use Rattle.model.specs.Commitment.{
  Pick,
  nothing,
  picked,
  IsPick,
  Serves,
  Cheapest,
  NO_RUN,
  line_cost,
  run_cost,
  full_cost,
  run_before,
  pick_cost,
  least_cost,
  full_least,
  cheapest_run,
}
use Rattle.model.specs.Plan.{Compatible, Plan, upkeep, upkeep_at, run_cost_at, plan_cost}
use Rattle.model.specs.Order.{Same, Lower, Earlier}
use Rattle.model.proofs.DomainLaws.{span_from, span_below, span_of}
use Rattle.model.proofs.CommitmentLaws.{fewer_out, cheapest_right, cheapest_full, least_of}
use Rattle.model.proofs.ScheduleLaws.{sound_plan, plan_sound, cost_plan}
use Rattle.blame.specs.Closed.{Closed, Settled}
use Rattle.blame.specs.Placed.{first_units, out_of, partly, paid, Standing, run_of, run_at, plan_of}
use Rattle.blame.proofs.PairLaws.{compatible_same}
use Rattle.blame.proofs.BoundLaws.{paid_parts}

-- ---- only the units of the problem count

-- no run costs less than the cheapest
least_serves : (p : Problem) (t : ℕ) (out : NumSet) (r : ℕ) → Serves p t out r → least_cost p t out ≤ run_cost p t out r
unfolding least_cost pick_cost
least_serves p t out r s = go (cheapest_run p t out) (cheapest_right p t out)
  where
    go : (f : Pick) → IsPick p t out f → pick_cost (run_cost p t out) f ≤ run_cost p t out r
    go nothing none = absurd (none r s)
    go (picked q) c = c.least r s

module _ (p : Problem) (t : ℕ) (a b : NumSet) (same : (i : ℕ) → i < p.units → a i ≡ b i) where
  there : (r : ℕ) → Serves p t a r → Serves p t b r
  there = fewer_out p t b a (λ i h e. same i h ∙ e)

  back : (r : ℕ) → Serves p t b r → Serves p t a r
  back = fewer_out p t a b (λ i h e. sym (same i h) ∙ e)

  -- the same units out leave a run's cost
  pub run_same : (r : ℕ) → run_cost p t a r ≡ run_cost p t b r
  unfolding run_cost complement
  run_same r = pick_agree p.units (complement b) (complement a) (line_cost p t r) (λ i h. ap not (same i h))

  -- and the cheapest run's
  pub least_same : least_cost p t a ≡ least_cost p t b
  unfolding least_cost pick_cost
  least_same = go (cheapest_run p t a) (cheapest_right p t a) (cheapest_run p t b) (cheapest_right p t b)
    where
      go : (f : Pick) → IsPick p t a f → (g : Pick) → IsPick p t b g → pick_cost (run_cost p t a) f ≡ pick_cost (run_cost p t b) g
      go nothing none nothing _ = refl
      go nothing none (picked r) d = absurd (none r (back r d.serves))
      go (picked q) c nothing none = absurd (none q (there q c.serves))
      go (picked q) c (picked r) d =
          omega (arith, c.least r (back r d.serves), d.least q (there q c.serves), run_same q, run_same r)

  -- with OFF charged to the units out too
  pub full_same : full_least p t a ≡ full_least p t b
  unfolding full_least pick_cost
  full_same = go (cheapest_run p t a) (cheapest_right p t a) (cheapest_run p t b) (cheapest_right p t b)
    where
      go : (f : Pick) → IsPick p t a f → (g : Pick) → IsPick p t b g → pick_cost (full_cost p t) f ≡ pick_cost (full_cost p t) g
      go nothing none nothing _ = refl
      go nothing none (picked r) d = absurd (none r (back r d.serves))
      go (picked q) c nothing none = absurd (none q (there q c.serves))
      go (picked q) c (picked r) d =
          omega (arith, cheapest_full p t a q r c (back r d.serves), cheapest_full p t b r q d (there q c.serves))

-- ---- the units placed

-- one unit more than the first k
pub first_next : (k : ℕ) → with (first_units k) k ≡ first_units (k + 1)
unfolding first_units
first_next k = fun_ext (λ i. go i (ltb_total i k))
  where
    go : (i : ℕ) → (ltb i k ≡ true) ⊎ ((i ≡ k) ⊎ (ltb k i ≡ true)) → (ltb i k || eqb i k) ≡ ltb i (k + 1)
    go i (inl e) = let l = ltb-true i k e in rw (e, lt-ltb i (k + 1) (omega arith))
    go i (inr (inl e)) = or_right (ltb i k) (eqb i k) (eq-eqb i k e) ∙ sym (lt-ltb i (k + 1) (omega arith))
    go i (inr (inr e)) = let l = ltb-true k i e in rw (le-ltb i k (omega arith), ne_eqb i k (λ q. omega arith), le-ltb i (k + 1) (omega arith))

-- a unit that is not placed is not out by its start
pub out_none : (p : Problem) (b : NumSet) (starts : ℕ → ℕ) (t i : ℕ) → b i ≡ false → out_of p b starts t i ≡ false
unfolding out_of
out_none p b starts t i e = rw e

module _ (p : Problem) (b : NumSet) (starts other : ℕ → ℕ) (same : (i : ℕ) → b i ≡ true → starts i ≡ other i) where
  -- only the starts of the units placed count: for who is out
  pub out_agree : (t i : ℕ) → out_of p b starts t i ≡ out_of p b other t i
  unfolding out_of out_in
  out_agree t i = go (b i) refl
    where
      go : (c : Bool) → b i ≡ c → (c && in_span (starts i) (p.duration i) t) ≡ (c && in_span (other i) (p.duration i) t)
      go true e = ap (λ (s : ℕ). in_span s (p.duration i) t) (same i e)
      go false e = refl

  -- for what the search has tested
  pub standing_agree : Standing p b starts → Standing p b other
  standing_agree s = record {
    permits = λ i h. ap (permitted p i) (sym (same i h)) ∙ s.permits i h;
    compatible = λ t l. subst (Compatible p) (fun_ext (out_agree t)) (s.compatible t l);
    served = λ t l. subst (λ (a : NumSet). full_least p t a < NO_RUN) (fun_ext (out_agree t)) (s.served t l);
  }

-- ---- one unit more, a week at a time

module _ (p : Problem) (b : NumSet) (starts : ℕ → ℕ) (j t i : ℕ) where
  partly_at : (m : ℕ) (c : Bool) → in_span (starts j) m t ≡ c → partly p b starts j m t i ≡ (out_of p b starts t i || (eqb i j && c))
  unfolding partly
  partly_at m c e = ap (λ (x : Bool). out_of p b starts t i || (eqb i j && x)) e

  partly_out : (m : ℕ) → (in_span (starts j) m t ≡ true → ⊥) → partly p b starts j m t i ≡ out_of p b starts t i
  partly_out m h = partly_at m false (not_so (in_span (starts j) m t) h) ∙ rw (and_last_false (eqb i j)) (or_last_false (out_of p b starts t i))

  -- with unit j out for no week yet, only the units placed are out
  pub partly_none : partly p b starts j 0 t i ≡ out_of p b starts t i
  partly_none = partly_out 0 (λ e. omega (arith, span_from (starts j) 0 t e, span_below (starts j) 0 t e))

  -- with it out for its whole overhaul, it is placed too
  pub partly_all : partly p b starts j (p.duration j) t i ≡ out_of p (with b j) starts t i
  unfolding partly out_of out_in
  partly_all = go (ℕ_discrete i j)
    where
      own : (c x : Bool) → ((c && x) || x) ≡ ((c || true) && x)
      own true true = refl
      own true false = refl
      own false x = refl

      go : Dec (i ≡ j) → partly p b starts j (p.duration j) t i ≡ out_of p (with b j) starts t i
      go (yes e) = rw (e, eq-eqb j j refl) (own (b j) (in_span (starts j) (p.duration j) t))
      go (no n) = rw (ne_eqb i j n, or_last_false (b i)) (or_last_false (b i && in_span (starts i) (p.duration i) t))

module _ (p : Problem) (b : NumSet) (starts : ℕ → ℕ) (j n t i : ℕ) where
  -- one week more of its overhaul: in that week the unit joins those out
  pub partly_here : t + 1 ≡ starts j + n → partly p b starts j (n + 1) t i ≡ with (out_of p b starts t) j i
  partly_here e = partly_at p b starts j t i (n + 1) true (span_of (starts j) (n + 1) t (omega arith) (omega arith)) ∙ rw (and_last_true (eqb i j))

  -- in the other weeks the same units are out as before
  pub partly_else : (t + 1 ≡ starts j + n → ⊥) → partly p b starts j (n + 1) t i ≡ partly p b starts j n t i
  partly_else ne =
      partly_at p b starts j t i (n + 1) (in_span (starts j) n t) (same_test (in_span (starts j) (n + 1) t) (in_span (starts j) n t) there back)
      ∙ sym (partly_at p b starts j t i n (in_span (starts j) n t) refl)
    where
      there : in_span (starts j) (n + 1) t ≡ true → in_span (starts j) n t ≡ true
      there e =
          let a = span_from (starts j) (n + 1) t e in
          let c = span_below (starts j) (n + 1) t e in
          span_of (starts j) n t a
          (⊎_elim (λ (q : t + 1 ≡ starts j + n). absurd (ne q)) (λ (l : t + 1 < starts j + n). l) (eq-or-lt_of_le (omega arith)))

      back : in_span (starts j) n t ≡ true → in_span (starts j) (n + 1) t ≡ true
      back e = span_of (starts j) (n + 1) t (span_from (starts j) n t e) (omega (arith, span_below (starts j) n t e))

-- ---- a week with a run

-- a least cost below NO_RUN says that the run picked is the cheapest
picked_cheapest : (p : Problem) (t : ℕ) (a : NumSet) → full_least p t a < NO_RUN → Cheapest p t a (run_of (cheapest_run p t a))
unfolding full_least pick_cost run_of
picked_cheapest p t a low = go (cheapest_run p t a) (cheapest_right p t a) low
  where
    go : (f : Pick) → IsPick p t a f → pick_cost (full_cost p t) f < NO_RUN → Cheapest p t a (run_of f)
    go nothing none h = absurd (omega arith)
    go (picked q) c h = c

-- ---- all units placed

module _ (p : Problem) (starts : ℕ → ℕ) (fair : Fair p) where
  -- these starts' runs in a schedule with the same starts
  run_there : (s : Schedule) → Sound p s → Same p.units s.start starts → (t : ℕ) → t < p.weeks → Serves p t (out_in p starts t) (s.run t)
  unfolding out_in
  run_there s sound same t l =
      fewer_out p t (out_in p starts t) (out_in p s.start t) (λ i h e. ap (λ (v : ℕ). in_span v (p.duration i) t) (same i h) ∙ e) (s.run t)
      ((sound_plan p s fair sound).serves t l)

  -- at the same cost
  out_same : (s : Schedule) → Same p.units s.start starts → (t : ℕ)
      → run_cost p t (out_in p starts t) (s.run t) ≡ run_cost p t (out_in p s.start t) (s.run t)
  unfolding out_in
  out_same s same t =
      run_same p t (out_in p starts t) (out_in p s.start t) (λ i h. ap (λ (v : ℕ). in_span v (p.duration i) t) (sym (same i h))) (s.run t)

  -- the overhauls of a schedule with the same starts cost the same
  upkeep_same : (s : Schedule) → Same p.units s.start starts → sum_to p.units (upkeep_at p s.start) ≡ sum_to p.units (upkeep_at p starts)
  unfolding upkeep_at
  upkeep_same s same = sum_same p.units (upkeep_at p s.start) (upkeep_at p starts) (λ i h. ap (upkeep p i) (same i h))

  -- no sound schedule with these starts costs less than they do with each week's cheapest run
  pub leaf_least : (s : Schedule) → Sound p s → Same p.units s.start starts → paid p (out_in p starts) ≤ cost p s
  unfolding plan_cost run_cost_at out_in
  leaf_least s sound same = omega (
    arith,
    cost_plan p s sound.schedule,
    paid_parts p starts,
    upkeep_same s same,
    sum_mono p.weeks (λ t. least_cost p t (out_in p starts t)) (run_cost_at p s.start s.run) week,
  )
    where
      week : (t : ℕ) → t < p.weeks → least_cost p t (out_in p starts t) ≤ run_cost p t (out_in p s.start t) (s.run t)
      week t l = omega (arith, least_serves p t (out_in p starts t) (s.run t) (run_there s sound same t l), out_same s same t)

  -- so they are a dead end below that
  pub leaf_closed : (b : NumSet) → ((i : ℕ) → i < p.units → b i ≡ true) → Closed p b starts (paid p (out_in p starts))
  leaf_closed b all = record { costs = λ s sound agree. leaf_least s sound (λ i h. agree i h (all i h)) }

  module _ (b : NumSet) (all : (i : ℕ) → i < p.units → b i ≡ true) (standing : Standing p b starts) where
    -- the units placed that are out are the units out
    out_all : (t i : ℕ) → i < p.units → out_of p b starts t i ≡ out_in p starts t i
    unfolding out_of
    out_all t i h = rw (all i h)

    -- each week's run is the cheapest
    pub run_cheapest : (t : ℕ) → t < p.weeks → Cheapest p t (out_in p starts t) (run_at p starts t)
    unfolding run_at
    run_cheapest t l =
        picked_cheapest p t (out_in p starts t)
        (omega (arith, standing.served t l, full_same p t (out_of p b starts t) (out_in p starts t) (out_all t)))

    leaf_plan : Plan p (plan_of p starts)
    leaf_plan = record {
      permits = λ i h. standing.permits i (all i h);
      serves = λ t l. (run_cheapest t l).serves;
      compatible = λ t l.
          compatible_same p (out_of p b starts t) (out_in p starts t) (λ i h. sym (out_all t i h)) fair (standing.compatible t l);
    }

    -- the starts and each week's cheapest run are a sound schedule
    pub leaf_sound : Sound p (plan_of p starts)
    leaf_sound = plan_sound p (plan_of p starts) fair leaf_plan

    -- which costs what the search has counted
    pub leaf_cost : cost p (plan_of p starts) ≡ paid p (out_in p starts)
    unfolding plan_cost run_cost_at
    leaf_cost = omega (
      arith,
      cost_plan p (plan_of p starts) leaf_sound.schedule,
      paid_parts p starts,
      sum_same p.weeks (λ t. least_cost p t (out_in p starts t)) (run_cost_at p starts (run_at p starts)) week,
    )
      where
        week : (t : ℕ) → t < p.weeks → least_cost p t (out_in p starts t) ≡ run_cost p t (out_in p starts t) (run_at p starts t)
        week t l = least_of p t (out_in p starts t) (run_at p starts t) (run_cheapest t l)

    -- with the same starts and an earlier run in the first week that differs it costs more
    runs_first : (q : Schedule) → Sound p q → Same p.units q.start starts → Lower (run_before p) p.weeks q.run (run_at p starts)
        → paid p (out_in p starts) < cost p q
    unfolding plan_cost run_cost_at
    runs_first q sound same lower = omega (
      arith,
      leaf_cost,
      cost_plan p (plan_of p starts) leaf_sound.schedule,
      cost_plan p q sound.schedule,
      upkeep_same q same,
      sum_less p.weeks lower.at (run_cost_at p starts (run_at p starts)) (run_cost_at p q.start q.run) lower.below
          (omega (
            arith,
            out_same q same lower.at,
            (run_cheapest lower.at lower.below).first (q.run lower.at) (run_there q sound same lower.at lower.below) lower.less,
          ))
          (λ t l. omega (arith, out_same q same t, (run_cheapest t l).least (q.run t) (run_there q sound same t l))),
    )

    -- every earlier sound schedule costs more, where all before these starts are settled at a limit above the cost
    pub leaf_first : (limit : ℕ) → Settled p starts p.units limit → paid p (out_in p starts) < limit
        → (q : Schedule) → Sound p q → Earlier p q (plan_of p starts) → paid p (out_in p starts) < cost p q
    leaf_first limit settled low q sound (inl lower) = omega (arith, settled.costs q sound lower)
    leaf_first limit settled low q sound (inr both) = runs_first q sound both.0 both.1
