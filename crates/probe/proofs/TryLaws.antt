-- A start tried: the tries are spent, it fails, or it holds and another unit is placed.
-- Assumes nothing.
use Prim.Native.Nat.{ℕ, ◌*◌, ◌-◌, ◌<◌}
use mathlib.Core.Path.{◌≡◌, refl, sym, ◌∙◌, ap, subst, subst₂, fun_ext}
use mathlib.Core.Bool.{true}
use mathlib.Core.List.{List}
use mathlib.Core.Logic.{⊎_elim}
use native.Mathlib.Omega.{arith}
use lib.ListN.{length}
use Rattle.sums.specs.NumSet.{NumSet, has}
use Rattle.sums.specs.Table.{entry}
use Rattle.sums.proofs.NumSetLaws.{with_back}
use Rattle.model.specs.Problem.{Problem}
use Rattle.instance.specs.declared.file.File.{File}
use Rattle.instance.specs.File.{problem}
use Rattle.instance.specs.Filed.{Filed}
use Rattle.blame.specs.Placed.{out_of}
use Rattle.tables.specs.Tables.{price_in}
use Rattle.relaxation.specs.Relaxed.{MemoTrue}
use Rattle.dual.specs.declared.Node.{Node}
use Rattle.dual.specs.Blame.{placed_after, next_node, IsNext}
use Rattle.std.proofs.Common.{Result, Ok, Err}
use Rattle.bound.specs.Rows.{Rows, RowsDue, RowsWith}
use Rattle.bound.specs.Tests.{Stands}
use Rattle.bound.proofs.RowLaws.{rows_joined}
use Rattle.state.specs.declared.State.{State}
use Rattle.state.specs.declared.Step.{Step}
use Rattle.state.specs.State.{tried_once, stopped_at}
use Rattle.walk.proofs.StateLaws.{carried_same}
use Rattle.probe.specs.declared.Visit.{Visit}
use Rattle.probe.specs.Probe.{unplaced, Goes, Probed, Opened, PlaceDue, StartDue, Taken, Refuted, StartTaken, PlaceDone, StartDone}
use Rattle.probe.proofs.PlanLaws.{improves_same, goes_next, unplaced_falls}

-- a try is counted within the budget
goes_tried : (p : Problem) (w : List ℕ) (st : State) → st.tries < st.budget → Goes p w st w (tried_once st)
goes_tried p w st left = record { carried = carried_same p w st.used; budget = refl; counted = λ _. omega arith }

module _ (file : File) (us rows ys : List ℕ) (at : Visit) (w memo : List ℕ) (d : StartDue file us rows ys at w memo) where
  -- it has a memo
  pub try_recalls : MemoTrue (problem file) (price_in us) memo
  unfolding StartDue
  try_recalls = d.walking.recalls

  -- the weeks' values have 52 places
  pub try_long : 52 ≡ length ys
  unfolding StartDue
  try_long = sym d.startable.opened.stands.bounds.values.long

  -- the tries are spent
  pub try_stops : (k : ℕ) (step : Step) → step ≡ stopped_at at.visit.state at.visit.node.starts k → StartDone (problem file) w w at step
  unfolding StartDone
  try_stops k step is = subst (StartDone (problem file) w w at) (sym is) (record {
    improves = improves_same (problem file) (placed_after at.visit.node) (entry at.visit.node.starts) at.visit.state.limit.0 (entry at.visit.state.best);
    says = tt;
    goes = record { carried = carried_same (problem file) w at.visit.state.used; budget = refl; counted = λ m. m };
  })

-- it fails
pub taken_fails : (file : File) (us rows ys : List ℕ) (at : Visit) (w memo zs memo₁ : List ℕ) (r : Result Visit Step)
    → StartTaken file us rows ys at w memo zs memo₁ r → (step : Step) → r ≡ Err step → StartDone (problem file) w w at step
unfolding StartTaken StartDone
taken_fails file us rows ys at w memo zs memo₁ r j step t =
    let d : Refuted file us rows ys at w memo zs memo₁ step = subst (StartTaken file us rows ys at w memo zs memo₁) t j in
    subst (StartDone (problem file) w w at) (sym d.step_is) (record {
      improves = improves_same (problem file) (placed_after at.visit.node) (entry at.visit.node.starts) at.visit.state.limit.0 (entry at.visit.state.best);
      says = d.judging.said;
      goes = goes_tried (problem file) w at.visit.state d.judging.left;
    })

pub taken_dead_recalls : (file : File) (us rows ys : List ℕ) (at : Visit) (w memo zs memo₁ : List ℕ) (r : Result Visit Step) (step : Step)
    → StartTaken file us rows ys at w memo zs memo₁ r → r ≡ Err step → MemoTrue (problem file) (price_in us) memo₁
unfolding StartTaken
taken_dead_recalls file us rows ys at w memo zs memo₁ r step j t =
    let d : Refuted file us rows ys at w memo zs memo₁ step = subst (StartTaken file us rows ys at w memo zs memo₁) t j in d.judging.recalls

-- it holds
module _ (file : File) (us rows ys : List ℕ) (at : Visit) (w memo zs memo₁ : List ℕ) (r : Result Visit Step)
    (j : StartTaken file us rows ys at w memo zs memo₁ r) (next : Visit) (is : r ≡ Ok next) where
  pub taken : Taken file us rows ys at w memo zs memo₁ next
  unfolding StartTaken
  taken = subst (StartTaken file us rows ys at w memo zs memo₁) is j

  goes : IsNext at.visit.node taken.bound next.visit.node
  goes = taken.goes.node_is

  counted : next.visit.state ≡ tried_once at.visit.state
  counted = taken.goes.state_is

  -- the file, and the memo as it recalls now
  pub taken_filed : Filed file.words.now file.layout
  taken_filed = file.filed

  pub taken_recalls : MemoTrue (problem file) (price_in us) memo₁
  taken_recalls = taken.judging.recalls

  -- what its rows ask
  pub taken_rows : RowsDue (problem file) rows (entry at.visit.node.starts) at.visit.node.unit
  taken_rows =
      let u = taken.judging.due.startable in
      record { unit = u.unit; permits = u.permits; long = u.opened.tallied.long; tallies = u.opened.tallied.tallies }

  placed : has next.visit.node.placed ≡ placed_after at.visit.node
  placed = fun_ext goes.joins

  opened : (out : List ℕ) → RowsWith (problem file) rows (entry at.visit.node.starts) at.visit.node.unit out
      → Opened (problem file) w us out zs (next_node at.visit.node next.visit.node.placed taken.bound) (tried_once at.visit.state)
  opened out tallied = let u = taken.judging.due.startable in record {
    within = λ i h.
        ⊎_elim (λ (f : has at.visit.node.placed i ≡ true). u.opened.within i f) (λ (q : i ≡ at.visit.node.unit). omega (arith, u.unit))
        (with_back (has at.visit.node.placed) at.visit.node.unit i (sym (goes.joins i) ∙ h));
    long = u.opened.long;
    stands = subst (λ (a : NumSet). Stands (problem file) us a (entry at.visit.node.starts) zs taken.bound.0) (sym placed) taken.judging.said;
    tallied = subst (λ (a : NumSet). Rows (problem file) (out_of (problem file) a (entry at.visit.node.starts)) out) (sym placed)
        (rows_joined (problem file) rows (has at.visit.node.placed) (entry at.visit.node.starts) at.visit.node.unit out u.opened.tallied tallied);
    small = u.opened.small;
    held = u.opened.held;
  }

  -- another unit is to be placed
  pub taken_places : (out : List ℕ) → RowsWith (problem file) rows (entry at.visit.node.starts) at.visit.node.unit out
      → PlaceDue file us out zs next w memo₁
  unfolding PlaceDue
  taken_places out tallied = record {
    walking = record { dual = taken.judging.due.walking.dual; recalls = taken.judging.recalls };
    opened = subst₂ (Opened (problem file) w us out zs) (sym goes.is) (sym counted) (opened out tallied);
  }

  -- the measure falls
  pub taken_falls : (n : ℕ) → 2 * unplaced (problem file) (has at.visit.node.placed) - 1 ≡ n
      → 2 * unplaced (problem file) (has next.visit.node.placed) < n
  taken_falls n en =
      let u = taken.judging.due.startable in
      let g = unplaced_falls (problem file) (has at.visit.node.placed) at.visit.node.unit u.unit u.fresh in
      let q = ap (unplaced (problem file)) placed in
      omega (arith, g, q)

  -- it was
  pub taken_placed : (w₂ : List ℕ) (step : Step) → PlaceDone (problem file) w w₂ next.visit.node next.visit.state step
      → StartDone (problem file) w w₂ at step
  unfolding StartDone PlaceDone
  taken_placed w₂ step done =
      let x : Probed (problem file) (placed_after at.visit.node) (entry at.visit.node.starts) w w₂ (tried_once at.visit.state) step
      = subst (λ (a : NumSet). Probed (problem file) a (entry at.visit.node.starts) w w₂ (tried_once at.visit.state) step) placed
      (subst₂ (λ (n : Node) (s : State). Probed (problem file) (has n.placed) (entry n.starts) w w₂ s step) goes.is counted done) in
      record {
        improves = x.improves;
        says = x.says;
        goes = goes_next (problem file) w w w₂ at.visit.state (tried_once at.visit.state) step.state
            (goes_tried (problem file) w at.visit.state taken.judging.left) x.goes;
      }
