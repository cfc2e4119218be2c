-- A start judged: by a noted conflict that is met, or by the tests of its weeks and its cost; and a schedule of all units weighed.
-- Assumes nothing.
use Prim.Native.Nat.{ℕ, ◌+◌, ◌≤◌, ◌<◌}
use mathlib.Core.Path.{◌≡◌, sym, ◌∙◌, ap, subst}
use mathlib.Core.Bool.{true}
use mathlib.Core.Logic.{inl, inr, ⊎_elim}
use mathlib.Core.List.{List}
use native.Mathlib.Decide.{dec_le}
use native.Mathlib.Omega.{arith}
use lib.ListN.{length}
use borrow.Author.Tests.{ltb-true, lt-ltb, le-ltb}
use Rattle.sums.specs.NumSet.{has}
use Rattle.sums.specs.Table.{entry}
use Rattle.sums.proofs.NumSetLaws.{with_back}
use Rattle.model.specs.Nogood.{MOST_LIMIT}
use Rattle.model.specs.Schedule.{out_in}
use Rattle.model.specs.Words.{problem_of}
use Rattle.model.proofs.FileLaws.{ranged, fair}
use Rattle.instance.specs.declared.file.File.{File}
use Rattle.instance.specs.File.{problem}
use Rattle.instance.specs.declared.Euro.{Euro}
use Rattle.instance.specs.Filed.{Filed}
use Rattle.blame.specs.Placed.{first_units, paid}
use Rattle.blame.proofs.ClosedLaws.{closed_more}
use Rattle.blame.proofs.PlacedLaws.{leaf_closed}
use Rattle.memo.specs.Memo.{Right, Others}
use Rattle.std.proofs.Common.{Option, Some, Ok, Err}
use Rattle.nogood.specs.Recall.{Recall, Recalled}
use Rattle.nogood.proofs.StockLaws.{recall_closed}
use Rattle.tables.specs.Tables.{price_in, total_in}
use Rattle.relaxation.specs.Relaxed.{MemoTrue}
use Rattle.relaxation.proofs.ValueLaws.{recalls_others}
use Rattle.dual.specs.declared.Node.{Node}
use Rattle.dual.specs.Blame.{placed_after, Blamed}
use Rattle.bound.specs.Rows.{RowsOfAll}
use Rattle.std.proofs.Common.{Result, Ok, Err}
use Rattle.bound.specs.Tests.{Blames, Judged, TestDue}
use Rattle.bound.proofs.RunLaws.{rows_all}
use Rattle.state.specs.declared.State.{State}
use Rattle.state.specs.declared.Step.{Step}
use Rattle.state.specs.State.{tried_once, dead_at, improved_by}
use Rattle.walk.specs.declared.Visit.{Visit}
use Rattle.walk.specs.Walk.{AllPlaced, TestStartDue, TryDue, Deeper, TryTaken, LeafDue, BetterDue, Better, Leaf}

-- ---- a start

module _ (file : File) (us rows ys : List ℕ) (at : Visit) (w memo : List ℕ) (d : TestStartDue file us rows ys at w memo) where
  -- a unit is one of sixteen
  pub test_few : at.node.unit < 16
  unfolding TestStartDue
  test_few = omega (arith, d.tests.due.unit, (ranged file.words.now file.filed.passed).units_most)

  -- the units placed and the node's own are the problem's
  inside : (i : ℕ) → placed_after at.node i ≡ true → i < (problem file).units
  unfolding TestStartDue
  inside i e =
      ⊎_elim (λ (h : has at.node.placed i ≡ true). d.tests.due.within i h) (λ (q : i ≡ at.node.unit). omega (arith, d.tests.due.unit))
      (with_back (has at.node.placed) at.node.unit i e)

  -- what the tests of the start ask
  pub test_due : TestDue file us rows at.node at.state.limit.0 ys memo
  unfolding TestStartDue
  test_due = d.tests

  pub test_recalls : MemoTrue (problem file) (price_in us) memo
  unfolding TestStartDue
  test_recalls = d.tests.recalls

  -- a noted conflict is met: its units are to blame
  pub test_met : (h : Option ℕ) (b : ℕ) → h ≡ Some b → Recalled w at.node.starts (placed_after at.node) at.state.limit.0 h
      → Blames (problem file) (placed_after at.node) (entry at.node.starts) at.state.limit.0 b
  unfolding TestStartDue
  test_met h b e r =
      let c : Recall w at.node.starts (placed_after at.node) at.state.limit.0 b
      = subst (Recalled w at.node.starts (placed_after at.node) at.state.limit.0) e r in
      let g = ranged file.words.now file.filed.passed in
      record {
        closed = recall_closed (problem file) d.held.nogoods w at.node.starts at.state.used (placed_after at.node) at.state.limit.0 b
            (fair file.words.now file.filed.passed) (omega (arith, g.weeks_most)) g.units_most inside d.held.stock c;
        within = c.match.within;
      }

module _ (file : File) (us rows ys : List ℕ) (at : Visit) (w memo : List ℕ) (d : TryDue file us rows ys at w memo) where
  -- what testing the start of a walk in the paper's order asks
  pub try_tests : TestStartDue file us rows ys at w memo
  unfolding TryDue TestStartDue
  try_tests = record {
    tests = record {
      dual = d.walking.dual;
      due = record {
        unit = d.untried.unit;
        permits = d.untried.permits;
        fresh = d.untried.order.each at.node.unit ∙ le-ltb at.node.unit at.node.unit (omega arith);
        within = λ i e. let less = ltb-true i at.node.unit (sym (d.untried.order.each i) ∙ e) in omega (arith, d.untried.unit);
        tallied = d.untried.tallied;
      };
      stands = d.untried.stands;
      small = d.untried.small;
      recalls = d.walking.recalls;
    };
    held = d.untried.held;
  }

  -- its unit is one of sixteen
  pub try_few : at.node.unit < 16
  try_few = test_few file us rows ys at w memo try_tests

  -- it was judged within the budget, and holds
  pub judged_holds : (zs memo₁ : List ℕ) (v : Result Euro ℕ) (c : Euro) (next : Visit) → v ≡ Ok c
      → Judged (problem file) us at.node at.state.limit.0 zs v → MemoTrue (problem file) (price_in us) memo₁ → Deeper at c next
      → TryTaken file us rows ys at w memo zs memo₁ (Ok next)
  unfolding TryDue TryTaken
  judged_holds zs memo₁ v c next e said recalls goes = record {
    bound = c;
    judging = record { due = d; said = subst (Judged (problem file) us at.node at.state.limit.0 zs) e said; recalls = recalls };
    goes = goes;
  }

  -- or does not
  pub judged_dead : (zs memo₁ : List ℕ) (v : Result Euro ℕ) (b : ℕ) (s : State) (step : Step) → v ≡ Err b
      → Judged (problem file) us at.node at.state.limit.0 zs v → MemoTrue (problem file) (price_in us) memo₁ → s ≡ tried_once at.state
      → step ≡ dead_at s b → TryTaken file us rows ys at w memo zs memo₁ (Err step)
  unfolding TryDue TryTaken
  judged_dead zs memo₁ v b s step e said recalls es is = record {
    b = b;
    judging = record { due = d; said = subst (Judged (problem file) us at.node at.state.limit.0 zs) e said; recalls = recalls };
    step_is = is ∙ ap (λ (x : State). dead_at x b) es;
  }

-- ---- every unit has its start

-- the schedule of all starts costs no less than a limit: all units are to blame
all_blames : (file : File) (node : Node) (cost limit : ℕ) → AllPlaced (problem file) node.placed
    → cost ≡ paid (problem file) (out_in (problem file) (entry node.starts)) → limit ≤ cost
    → Blames (problem file) (first_units (problem file).units) (entry node.starts) limit node.placed
unfolding first_units
all_blames file node cost limit whole e le =
    record {
      closed = closed_more (problem file) (has node.placed) (has node.placed) (entry node.starts)
          (paid (problem file) (out_in (problem file) (entry node.starts))) limit (λ i h q. q) (omega arith)
          (leaf_closed (problem file) (entry node.starts) (fair file.words.now file.filed.passed) (has node.placed) whole.all);
      within = λ i q. lt-ltb i (problem file).units (whole.within i q);
    }

module _ (file : File) (us rows ys : List ℕ) (at : Visit) (memo : List ℕ) (d : LeafDue file us rows ys at memo) where
  -- it has a file and a memo
  pub leaf_filed : Filed file.words.now file.layout
  unfolding LeafDue
  leaf_filed = file.filed

  pub leaf_right : Right (problem file) memo
  unfolding LeafDue
  leaf_right = d.walking.recalls.costs

  -- the weeks' values have 52 places
  pub leaf_long : 52 ≡ length ys
  unfolding LeafDue
  leaf_long = sym d.stands.bounds.values.long

  -- what its cost asks
  pub leaf_rows : RowsOfAll (problem file) (entry at.node.starts) rows
  unfolding LeafDue
  leaf_rows =
      rows_all (problem file) rows (has at.node.placed) (entry at.node.starts) d.tallied d.whole.all

  -- the memo recalls what it did
  pub leaf_recalls : (memo₁ : List ℕ) → Right (problem file) memo₁ → Others memo memo₁ → MemoTrue (problem file) (price_in us) memo₁
  unfolding LeafDue
  leaf_recalls memo₁ = recalls_others (problem file) (price_in us) memo memo₁ d.walking.recalls

  module _ (cost : ℕ) (e : cost ≡ paid (problem file) (out_in (problem file) (entry at.node.starts))) where
    -- the schedule costs the limit or more, and all are to blame
    pub leaf_dear : (step : Step) → at.state.limit.0 ≤ cost → step ≡ dead_at at.state at.node.placed
        → Leaf (problem file) at.node.starts at.state step
    unfolding LeafDue
    leaf_dear step le is = inl (record {
      b = at.node.placed;
      is = is;
      blames = all_blames file at.node cost at.state.limit.0 d.whole e le;
    })

    -- it costs less
    pub leaf_due : cost < at.state.limit.0 → BetterDue file us ys at cost
    unfolding LeafDue
    leaf_due less = record {
      bounded = record {
        dual = d.walking.dual;
        permits = record { each = d.stands.standing.permits };
        bounds = d.stands.bounds;
      };
      whole = d.whole;
      small = d.small;
      costs = e;
      less = less;
    }

-- the better one as the leaf has it
pub leaf_better : (ws xs : List ℕ) (st : State) (step : Step) → Better (problem_of ws) xs st step → Leaf (problem_of ws) xs st step
leaf_better ws xs st step h = inr h

module _ (file : File) (us ys : List ℕ) (at : Visit) (c : Euro) (d : BetterDue file us ys at c.0) where
  -- its cost is a limit
  pub better_small : c.0 ≤ MOST_LIMIT
  better_small = omega (arith, d.small, d.less)

  -- those whose starts keep the bound there are to blame, or all
  pub better_of : (b : ℕ) (s : State) (step : Step) → Blamed (problem file) us at.node c.0 b → s ≡ improved_by at.state at.node.starts c
      → step ≡ dead_at s b → Better (problem file) at.node.starts at.state step
  unfolding first_units
  better_of b s step h es is = record {
    c = c;
    b = b;
    is = is ∙ ap (λ (x : State). dead_at x b) es;
    costs = d.costs;
    less = d.less;
    blames = go (dec_le (c.0 + total_in us) at.node.bound.0);
  }
    where
      go : Dec (c.0 + total_in us ≤ at.node.bound.0)
          → Blames (problem file) (first_units (problem file).units) (entry at.node.starts) c.0 b
      go (yes q) = record {
        closed = h.closed q;
        within = λ i g. lt-ltb i (problem file).units (d.whole.within i (h.within i g));
      }
      go (no q) = subst (Blames (problem file) (first_units (problem file).units) (entry at.node.starts) c.0) (sym (h.all (omega arith)))
          (all_blames file at.node c.0 c.0 d.whole d.costs (omega arith))
