-- A start judged: the bound with it before its weeks are tested, and their verdict weighed against the limit.
-- Assumes nothing.
use Prim.Native.Nat.{ℕ, ◌+◌, ◌≤◌, ◌<◌}
use mathlib.Core.Path.{◌≡◌, sym, ◌∙◌, ap, subst, fun_ext}
use mathlib.Core.List.{List}
use native.Mathlib.Omega.{arith}
use lib.ListN.{get_or}
use Rattle.std.proofs.Common.{Ok, Err}
use Rattle.sums.specs.NumSet.{NumSet, has}
use Rattle.sums.specs.Table.{entry}
use Rattle.model.specs.Problem.{Problem}
use Rattle.model.proofs.DomainLaws.{permits_ends}
use Rattle.model.proofs.FileLaws.{fair}
use Rattle.instance.specs.declared.file.File.{File}
use Rattle.instance.specs.File.{problem}
use Rattle.instance.specs.declared.Euro.{Euro}
use Rattle.tables.specs.Tables.{excess_in, total_in}
use Rattle.dual.specs.declared.Node.{Node}
use Rattle.dual.specs.Dual.{Bounds}
use Rattle.dual.specs.Blame.{placed_after, next_node, IsNext, with_bound, Bounded, Blamed}
use Rattle.dual.proofs.BoundsLaws.{bounds_placed}
use Rattle.bound.specs.Tests.{Blames, Tested, Stands, StartBounded, with_start, StartDue, Weighing, TestDue}
use Rattle.bound.proofs.TestLaws.{bounds_small, with_permits}

-- the node with its start in the bound
pub with_start_lem : (us : List ℕ) (node r : Node) (m : ℕ) (b : Euro) → m ≡ excess_in us node.unit (get_or node.starts node.unit 0)
    → b.0 ≡ node.bound.0 + m → r ≡ with_bound node b → r ≡ with_start us node
unfolding entry
with_start_lem us node r m b em eb is = is ∙ ap (λ (x : ℕ). with_bound node (record { 0 = x })) (eb ∙ ap (λ (x : ℕ). node.bound.0 + x) em)

module _ (file : File) (us rows : List ℕ) (node : Node) (limit : ℕ) (xs memo : List ℕ) (d : TestDue file us rows node limit xs memo) where
  abbrev p : Problem
  p = problem file

  -- what its sum asks
  pub start_bounded : StartBounded node
  unfolding entry
  start_bounded = record {
    unit = omega (arith, d.due.unit, file.filed.units_are, file.filed.units_most);
    start = omega (
      arith,
      permits_ends p node.unit (entry node.starts node.unit) d.due.permits,
      (fair file.words.now file.filed.passed).some_weeks node.unit d.due.unit,
      file.filed.weeks_are,
      file.filed.weeks_most,
    );
    small = bounds_small file us d.dual (has node.placed) (entry node.starts) xs node.bound.0 d.stands.bounds;
  }

  -- what the tests of the weeks ask
  pub start_due : (next : Node) → next ≡ with_start us node → StartDue file us rows next xs memo
  start_due next e = subst (λ (n : Node). StartDue file us rows n xs memo) (sym e) (record {
    dual = d.dual;
    due = d.due;
    standing = d.stands.standing;
    bounds = bounds_placed p us (has node.placed) (entry node.starts) xs node.unit node.bound.0 d.dual.costs d.due.unit d.due.permits
        d.due.fresh d.stands.bounds;
    recalls = d.recalls;
  })

  -- a start that fails in a week
  pub week_blames : (next : Node) (wanted b : ℕ) (ys : List ℕ) → next ≡ with_start us node
      → Tested (problem file) us (has next.placed) (entry next.starts) next.unit wanted ys (Err b)
      → Blames (problem file) (placed_after node) (entry node.starts) limit b
  week_blames next wanted b ys e h =
      (subst (λ (n : Node). Tested p us (has n.placed) (entry n.starts) n.unit wanted ys (Err b)) e h).blames limit

  -- the bound of one that holds is weighed
  pub weighing : (next : Node) (total : Euro) (wanted : ℕ) (ys : List ℕ) → next ≡ with_start us node → wanted ≡ limit + total_in us
      → Tested (problem file) us (has next.placed) (entry next.starts) next.unit wanted ys (Ok total) → Weighing file us node total limit ys
  weighing next total wanted ys e ew h = record {
    dual = d.dual;
    unit = omega (arith, d.due.unit, file.filed.units_are);
    permits = record {
      each = with_permits p (has node.placed) (entry node.starts) node.unit d.stands.standing.permits d.due.permits;
    };
    tested = subst (λ (w : ℕ). Tested p us (has node.placed) (entry node.starts) node.unit w ys (Ok total)) ew
        (subst (λ (n : Node). Tested p us (has n.placed) (entry n.starts) n.unit wanted ys (Ok total)) e h);
    small = d.small;
  }

module _ (file : File) (us : List ℕ) (node : Node) (r : Euro) (limit : ℕ) (xs : List ℕ) (w : Weighing file us node r limit xs) where
  -- the bound lies below what is wanted: one unit more stands
  pub weighed_stands : (wanted : ℕ) → wanted ≡ limit + total_in us → r.0 < wanted
      → Stands (problem file) us (placed_after node) (entry node.starts) xs r.0
  weighed_stands wanted ew less = record { standing = w.tested.1 (omega arith); bounds = w.tested.0 }

  -- else the blame is made smaller
  pub weighed_bounded : (next : Node) → IsNext node r next → Bounded file us next xs
  weighed_bounded next n = subst (λ (x : Node). Bounded file us x xs) (sym n.is) (record {
    dual = w.dual;
    permits = record { each = λ i q. w.permits.each i (sym (n.joins i) ∙ q) };
    bounds = subst (λ (a : NumSet). Bounds (problem file) us a (entry node.starts) xs r.0) (sym (fun_ext n.joins)) w.tested.0;
  })

  pub weighed_closed : (next : Node) (wanted b : ℕ) → IsNext node r next → wanted ≡ limit + total_in us → wanted ≤ r.0
      → Blamed (problem file) us next limit b → Blames (problem file) (placed_after node) (entry node.starts) limit b
  weighed_closed next wanted b n ew le h =
      let g : Blamed (problem file) us (next_node node next.placed r) limit b = subst (λ (x : Node). Blamed (problem file) us x limit b) n.is h in
      record { closed = g.closed (omega arith); within = λ i q. sym (n.joins i) ∙ g.within i q }
