-- One ask of a run: what it is told by the carry or by a search, and what is remembered of its answer.
-- Assumes nothing.
use Prim.Native.Nat.{ℕ, ◌≤◌, ◌<◌}
use mathlib.Core.Path.{◌≡◌, refl, sym, ◌∙◌, ap, ap₂, subst, subst₂}
use mathlib.Core.Bool.{Bool, true, false}
use mathlib.Core.List.{List}
use native.Mathlib.Omega.{arith}
use lib.Dec.{ltb}
use borrow.Author.Tests.{lt-ltb, le-ltb}
use Rattle.std.specs.Prelude.{Some, None}
use Rattle.sums.proofs.LogicLaws.{true_false, or_left, or_right}
use Rattle.model.specs.Problem.{Problem}
use Rattle.model.specs.Best.{Region}
use Rattle.model.specs.Nogood.{Nogood}
use Rattle.model.specs.Answer.{infeasible, Found, Correct}
use Rattle.model.specs.Asks.{Leaves}
use Rattle.nogood.specs.Stock.{Stock, Grown}
use Rattle.nogood.proofs.StockLaws.{grown_none}
use Rattle.search.specs.declared.Reply.{Reply}
use Rattle.search.specs.Ask.{answer_for, answer_of, Asked}
use Rattle.planner.specs.declared.Carry.{Carry}
use Rattle.planner.specs.Carry.{PlanKnown, has_plan, AskReady, SaysNone, settled_by, with_used, Replied}

-- ---- what an ask is told

-- a plan is one under every ceiling from its cost on
pub found_under : (p : Problem) (c d k : ℕ) (In : Region) (ss rs : List ℕ) → Found p c In k ss rs → k ≤ d → Found p d In k ss rs
found_under p c d k In ss rs h l = record {
  starts = h.starts;
  runs = h.runs;
  costs = h.costs;
  best = record {
    allowed = record { sound = h.best.allowed.sound; cheap = omega (arith, h.costs) };
    inside = h.best.inside;
    least = h.best.least;
    first = h.best.first;
  };
}

module _ (p : Problem) (ceiling budget : ℕ) (m : Carry) (w : List ℕ) (ready : AskReady p w m) (r : Reply) where
  -- a settled ask adds nothing to the table
  nothing_added : settled_by m ceiling ≡ true → r.state.used ≡ m.used → (gs : List Nogood) → Stock p gs w m.used
      → Grown p (Leaves (settled_by m ceiling) ceiling (answer_of p r)) gs w r.state.used
  nothing_added t u gs s =
      subst₂ (λ (b : Bool) (n : ℕ). Grown p (Leaves b ceiling (answer_of p r)) gs w n) (sym t) (sym u)
      (grown_none p gs w m.used (Leaves true ceiling (answer_of p r)) refl s)

  -- none, below the least cost
  pub replied_none : ceiling < m.least.0 → SaysNone m.used r → Replied p ceiling budget m w w r
  unfolding settled_by
  replied_none h n = record {
    correct = subst (Correct p ceiling budget) (sym none) (λ q i a. omega (arith, ready.knows.least.costs q a.sound, a.cheap));
    below = λ l. none;
    again = λ q k l. absurd (omega arith);
    stock = nothing_added (or_right (has_plan m.plan) (ltb ceiling m.least.0) (lt-ltb ceiling m.least.0 h)) n.words;
    words = λ k u l. omega (arith, n.words);
    long = refl;
    small = n.small;
  }
    where
      none : answer_of p r ≡ infeasible
      none =
          ap₂ (answer_for p r.state.limit.0 r.state.best r.state.mark r.runs) n.nothing n.ended

  -- the known plan, from its cost on
  pub replied_again : (q : Reply) → m.least.0 ≤ ceiling → m.plan ≡ Some q → r ≡ with_used q m.used → Replied p ceiling budget m w w r
  unfolding settled_by
  replied_again q h k e = record {
    correct = subst (Correct p ceiling budget) (sym (same ∙ plan.is)) (found_under p m.least.0 ceiling m.least.0 _ plan.starts
        plan.runs plan.found h);
    below = λ l. absurd (omega arith);
    again = λ x z l. let one : q ≡ x = cc in same ∙ ap (answer_of p) one;
    stock = nothing_added (or_left (has_plan m.plan) (ltb ceiling m.least.0) (ap has_plan k)) words;
    words = λ n u l. omega (arith, words);
    long = refl;
    small = omega (arith, ap (λ (x : Reply). x.state.limit.0) e, plan.small);
  }
    where
      plan : PlanKnown p m.least.0 q
      plan = ready.knows.plan q k

      same : answer_of p r ≡ answer_of p q
      same = ap (answer_of p) e

      words : r.state.used ≡ m.used
      words = ap (λ (x : Reply). x.state.used) e

  -- what the search finds
  pub replied_solved : (w' : List ℕ) → m.least.0 ≤ ceiling → m.plan ≡ None → Asked p ceiling budget w m.used w' r
      → Replied p ceiling budget m w w' r
  unfolding settled_by
  replied_solved w' h k a = record {
    correct = a.correct;
    below = λ l. absurd (omega arith);
    again = λ q z l. true_false (sym (ap has_plan z) ∙ ap has_plan k);
    stock = λ gs s. subst (λ (b : Bool). Grown p (Leaves b ceiling (answer_of p r)) gs w' r.state.used) (sym unsettled) (a.stock gs s);
    words = a.room;
    long = a.long;
    small = a.small;
  }
    where
      unsettled : settled_by m ceiling ≡ false
      unsettled = rw (k, le-ltb ceiling m.least.0 h)
