-- A start judged: by a noted conflict that is met, or by the tests of its weeks and its cost; and a plan of all units weighed.
-- Assumes nothing.
use Prim.Native.Nat.{ℕ, ◌<◌}
use mathlib.Core.Path.{◌≡◌, refl, sym, ◌∙◌, ap, subst}
use mathlib.Core.Bool.{true}
use mathlib.Core.List.{List}
use mathlib.Core.Logic.{inl, inr}
use native.Mathlib.Omega.{arith}
use borrow.Author.Tests.{ltb-true}
use Rattle.sums.specs.NumSet.{has}
use Rattle.sums.specs.Table.{entry}
use Rattle.instance.specs.declared.file.File.{File}
use Rattle.instance.specs.File.{problem}
use Rattle.instance.specs.declared.Euro.{Euro}
use Rattle.blame.specs.Placed.{first_units, Standing}
use Rattle.tables.specs.Tables.{price_in}
use Rattle.relaxation.specs.Relaxed.{MemoTrue}
use Rattle.std.proofs.Common.{Result, Ok, Err}
use Rattle.bound.specs.Tests.{Judged}
use Rattle.state.specs.declared.State.{State}
use Rattle.state.specs.declared.Step.{Step}
use Rattle.state.specs.State.{tried_once, stopped_at, dead_at}
use Rattle.walk.specs.Walk.{TestStartDue, Deeper, LeafDue, Leaf}
use Rattle.walk.proofs.JudgedLaws.{test_few}
use Rattle.probe.specs.declared.Visit.{Visit}
use Rattle.probe.specs.Probe.{Says, StartDue, StartTaken, WeighDue, Weighed, Stops}
use Rattle.probe.proofs.PlanLaws.{improves_same, goes_same}

-- ---- a start

module _ (file : File) (us rows ys : List ℕ) (at : Visit) (w memo : List ℕ) (d : StartDue file us rows ys at w memo) where
  -- what testing it asks
  pub start_tests : TestStartDue file us rows ys at.visit w memo
  unfolding StartDue TestStartDue
  start_tests = record {
    tests = record {
      dual = d.walking.dual;
      due = record {
        unit = d.startable.unit;
        permits = d.startable.permits;
        fresh = d.startable.fresh;
        within = d.startable.opened.within;
        tallied = d.startable.opened.tallied;
      };
      stands = d.startable.opened.stands;
      small = d.startable.opened.small;
      recalls = d.walking.recalls;
    };
    held = d.startable.opened.held;
  }

  -- its unit is one of sixteen
  pub start_few : at.visit.node.unit < 16
  start_few = test_few file us rows ys at.visit w memo start_tests

  -- it was judged within the budget, and holds
  pub judged_holds : (zs memo₁ : List ℕ) (v : Result Euro ℕ) (c : Euro) (next : Visit) → v ≡ Ok c → at.visit.state.tries < at.visit.state.budget
      → Judged (problem file) us at.visit.node at.visit.state.limit.0 zs v → MemoTrue (problem file) (price_in us) memo₁
      → Deeper at.visit c next.visit → StartTaken file us rows ys at w memo zs memo₁ (Ok next)
  unfolding StartDue StartTaken
  judged_holds zs memo₁ v c next e left said recalls goes = record {
    bound = c;
    judging = record {
      due = d;
      left = left;
      said = subst (Judged (problem file) us at.visit.node at.visit.state.limit.0 zs) e said;
      recalls = recalls;
    };
    goes = goes;
  }

  -- or does not
  pub judged_dead : (zs memo₁ : List ℕ) (v : Result Euro ℕ) (b : ℕ) (s : State) (step : Step) → v ≡ Err b
      → at.visit.state.tries < at.visit.state.budget → Judged (problem file) us at.visit.node at.visit.state.limit.0 zs v
      → MemoTrue (problem file) (price_in us) memo₁ → s ≡ tried_once at.visit.state → step ≡ dead_at s b
      → StartTaken file us rows ys at w memo zs memo₁ (Err step)
  unfolding StartDue StartTaken
  judged_dead zs memo₁ v b s step e left said recalls es is = record {
    b = b;
    judging = record {
      due = d;
      left = left;
      said = subst (Judged (problem file) us at.visit.node at.visit.state.limit.0 zs) e said;
      recalls = recalls;
    };
    step_is = is ∙ ap (λ (x : State). dead_at x b) es;
  }

-- ---- every unit has its start

-- a step as it was
pub stops_not : (step : Step) → Stops step step
stops_not step =
    record { limit_is = refl; best_is = refl; used_is = refl; tries_is = refl; budget_is = refl; says = λ p a starts limit h. h }

-- stopped
pub stops_so : (step r : Step) (xs : List ℕ) (k : ℕ) → r ≡ stopped_at step.state xs k → Stops step r
stops_so step r xs k e = record {
  limit_is = ap (λ (x : Step). x.state.limit) e;
  best_is = ap (λ (x : Step). x.state.best) e;
  used_is = ap (λ (x : Step). x.state.used) e;
  tries_is = ap (λ (x : Step). x.state.tries) e;
  budget_is = ap (λ (x : Step). x.state.budget) e;
  says = λ p a starts limit h. subst (λ (x : Step). Says p a starts limit x.walked) (sym e) tt;
}

module _ (file : File) (us rows ys : List ℕ) (at : Visit) (memo : List ℕ) (d : WeighDue file us rows ys at memo) where
  -- what weighing the plan asks
  pub weigh_leaf : LeafDue file us rows ys at.visit memo
  unfolding WeighDue LeafDue
  weigh_leaf = record {
    walking = d.needs.walking;
    whole = d.whole;
    stands = d.needs.opened.stands;
    tallied = d.needs.opened.tallied;
    small = d.needs.opened.small;
  }

  standing : Standing (problem file) (has at.visit.node.placed) (entry at.visit.node.starts)
  unfolding WeighDue
  standing = d.needs.opened.stands.standing

  all : (i : ℕ) → i < (problem file).units → has at.visit.node.placed i ≡ true
  unfolding WeighDue
  all = d.whole.all

  -- the plan costs the limit or more, or it is the best so far
  weighed_so : (step : Step) → Leaf (problem file) at.visit.node.starts at.visit.state step → Weighed (problem file) at.visit.node at.visit.state step
  unfolding WeighDue first_units
  weighed_so step (inl h) = subst (Weighed (problem file) at.visit.node at.visit.state) (sym h.is) (record {
    each = λ w. record {
      improves = improves_same (problem file) (has at.visit.node.placed) (entry at.visit.node.starts) at.visit.state.limit.0 (entry at.visit.state.best);
      says = record {
        closed = h.blames.closed;
        within = λ i e. all i (ltb-true i (problem file).units (h.blames.within i e));
      };
      goes = goes_same (problem file) w at.visit.state;
    };
  })
  weighed_so step (inr h) = subst (Weighed (problem file) at.visit.node at.visit.state) (sym h.is) (record {
    each = λ w. record {
      improves = record {
        falls = omega (arith, h.less);
        reached = λ _. record {
          agrees = λ i m e. refl;
          plan_at = record {
            stands = record { units = has at.visit.node.placed; all = all; standing = standing };
            costs = sym h.costs;
          };
        };
        kept = λ m. absurd (omega (arith, h.less));
      };
      says = record {
        closed = h.blames.closed;
        within = λ i e. all i (ltb-true i (problem file).units (h.blames.within i e));
      };
      goes = record { carried = (goes_same (problem file) w at.visit.state).carried; budget = refl; counted = λ m. m };
    };
  })

  -- and the probe may stop there
  pub weighed_stops : (step r : Step) → Leaf (problem file) at.visit.node.starts at.visit.state step → Stops step r
      → Weighed (problem file) at.visit.node at.visit.state r
  weighed_stops step r h s =
      let x = weighed_so step h in
      record {
        each = λ w. let y = x.each w in record {
          improves = rw (s.limit_is, s.best_is) y.improves;
          says = rw s.limit_is (s.says (problem file) (has at.visit.node.placed) (entry at.visit.node.starts) step.state.limit.0 y.says);
          goes = record {
            carried = rw s.used_is y.goes.carried;
            budget = s.budget_is ∙ y.goes.budget;
            counted = λ m. rw (s.tries_is, s.budget_is) (y.goes.counted m);
          };
        };
      }
