-- A start given to a unit that is not placed: the units placed stand as before.
-- Assumes nothing.
use Prim.Native.Nat.{ℕ, ◌≤◌, ◌<◌}
use mathlib.Core.Path.{◌≡◌, sym, ◌∙◌, ap}
use mathlib.Core.Bool.{true, false}
use mathlib.Core.List.{List}
use native.Mathlib.Omega.{arith}
use lib.ListN.{set, length-set}
use Rattle.sums.specs.NumSet.{has}
use Rattle.sums.specs.Table.{entry}
use Rattle.sums.proofs.LogicLaws.{true_false}
use Rattle.model.specs.Problem.{Problem}
use Rattle.model.specs.Domain.{permitted}
use Rattle.model.specs.Nogood.{MOST_LIMIT}
use Rattle.blame.specs.Placed.{out_of}
use Rattle.blame.proofs.PlacedLaws.{out_agree, standing_agree}
use Rattle.dual.specs.declared.Node.{Node}
use Rattle.dual.proofs.BoundsLaws.{bounds_agree}
use Rattle.bound.specs.Rows.{Rows}
use Rattle.bound.specs.Tests.{Stands}
use Rattle.state.specs.declared.State.{State}
use Rattle.walk.specs.Walk.{TableTrue}
use Rattle.walk.proofs.PlaceLaws.{put_here, put_other}
use Rattle.probe.specs.Probe.{Opened, Startable, start_at}

module _ (p : Problem) (w us rows ys : List ℕ) (node : Node) (st : State) (o : Opened p w us rows ys node st) (unit v : ℕ)
    (free : has node.placed unit ≡ false) where
  -- the units placed have their starts still
  same : (i : ℕ) → has node.placed i ≡ true → entry node.starts i ≡ entry (set node.starts unit v) i
  same i e = sym (put_other node.starts unit v i (λ q. true_false (sym e ∙ (ap (has node.placed) q ∙ free))))

  stands_here : Stands p us (has node.placed) (entry (set node.starts unit v)) ys node.bound.0
  stands_here = record {
    standing = standing_agree p (has node.placed) (entry node.starts) (entry (set node.starts unit v)) same o.stands.standing;
    bounds = bounds_agree p us (has node.placed) (entry node.starts) (entry (set node.starts unit v)) ys node.bound.0 same
        o.stands.bounds;
  }

  tallied_here : Rows p (out_of p (has node.placed) (entry (set node.starts unit v))) rows
  tallied_here = record {
    long = o.tallied.long;
    tallies = o.tallied.tallies;
    sets = λ d m i.
        o.tallied.sets d m i ∙ out_agree p (has node.placed) (entry node.starts) (entry (set node.starts unit v)) same d i;
  }

  -- the start can be tried, in a later state
  pub startable_at : (w₁ : List ℕ) (s : State) → unit < p.units → unit < 16 → permitted p unit v ≡ true → s.limit.0 ≤ MOST_LIMIT → TableTrue p w₁ s.used
      → Startable p w₁ us rows ys (start_at node unit v) s
  startable_at w₁ s inside few permits small held = record {
    unit = inside;
    fresh = free;
    permits = ap (permitted p unit) (put_here node.starts unit v (omega (arith, o.long))) ∙ permits;
    opened = record {
      within = o.within;
      long = length-set node.starts unit v ∙ o.long;
      stands = stands_here;
      tallied = tallied_here;
      small = small;
      held = held;
    };
  }
