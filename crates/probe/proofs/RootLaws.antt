-- A probe from the root: it settles all schedules below its last limit, and its plan is one of them all.
-- Assumes nothing.
use Prim.Native.Nat.{ℕ}
use mathlib.Core.Path.{◌≡◌, sym, ◌∙◌, ap, subst}
use mathlib.Core.List.{List}
use native.Mathlib.Omega.{arith}
use lib.ListN.{replicate}
use Rattle.sums.specs.NumSet.{has}
use Rattle.sums.specs.Table.{entry}
use Rattle.sums.proofs.LogicLaws.{true_false}
use Rattle.sums.proofs.NumSetLaws.{zero_has}
use Rattle.model.specs.Problem.{Problem}
use Rattle.instance.specs.declared.file.File.{File}
use Rattle.instance.specs.File.{problem}
use Rattle.instance.specs.declared.Euro.{Euro}
use Rattle.std.proofs.Common.{Result, Ok, Err}
use Rattle.bound.specs.Tests.{Blames, AllStand, AllBlame, RootValues, Rooted, RootDue}
use Rattle.bound.proofs.RowLaws.{rows_none}
use Rattle.state.specs.declared.State.{State}
use Rattle.state.specs.declared.Step.{Step}
use Rattle.state.specs.declared.Walked.{Walked}
use Rattle.state.specs.declared.Walked.TheVariants.{Dead, Spent}
use Rattle.state.specs.State.{dead_at}
use Rattle.walk.specs.Walk.{AllSettled, AtRoot, Unspent}
use Rattle.probe.specs.declared.Visit.{Visit}
use Rattle.probe.specs.Probe.{Says, Probed, PlaceDue, PlaceDone, ProbeDue, RootDone}
use Rattle.probe.proofs.PlanLaws.{goes_same}

-- where nobody is to blame, nothing is below the limit
blame_nobody : (p : Problem) (starts : ℕ → ℕ) (limit b : ℕ) → Blames p (has 0) starts limit b → AllSettled p limit
blame_nobody p starts limit b h = record { costs = λ s sound. h.closed.costs s sound (λ i l e. true_false (sym (h.within i e) ∙ zero_has i)) }

module _ (file : File) (us w memo : List ℕ) (st : State) (d : ProbeDue file us st w memo) where
  -- what the root asks
  pub root_due : RootDue file us st.limit.0
  root_due = record { dual = d.walking.dual; small = d.small }

  module _ (v : Result Euro ℕ) (said : Rooted (problem file) us st.limit.0 v) where
    -- before any unit is placed nothing is left below the limit
    pub root_fails : (b : ℕ) (step : Step) → v ≡ Err b → step ≡ dead_at st 0 → RootDone (problem file) w w st step
    root_fails b step e is =
        let h : AllBlame (problem file) st.limit.0 b = subst (Rooted (problem file) us st.limit.0) e said in
        subst (RootDone (problem file) w w st) (sym is) (record {
          falls = omega arith;
          settled = λ _. blame_nobody (problem file) (λ i. 0) st.limit.0 b (h.each (λ i. 0));
          plan = λ m. absurd (omega arith);
          goes = goes_same (problem file) w st;
        })

    -- no unit is placed
    pub root_places : (c : Euro) (rows ys : List ℕ) (at : Visit) → v ≡ Ok c → rows ≡ replicate 52 0 → RootValues us ys → AtRoot c.0 st at.visit
        → PlaceDue file us rows ys at w memo
    unfolding PlaceDue
    root_places c rows ys at e none fronts root =
        let stands : AllStand (problem file) us ys c.0 = subst (Rooted (problem file) us st.limit.0) e said ys fronts in
        record {
          walking = d.walking;
          opened = record {
            within = λ i h. true_false (sym h ∙ (ap (λ (n : ℕ). has n i) root.nobody ∙ zero_has i));
            long = root.long;
            stands = rw (root.nobody, root.bound_is) (stands.each (entry at.visit.node.starts));
            tallied = rw root.nobody (rows_none (problem file) (entry at.visit.node.starts) rows none);
            small = rw root.same d.small;
            held = rw root.same d.held;
          };
        }

-- units were placed in any order
pub root_placed : (p : Problem) (w w' : List ℕ) (c : ℕ) (st : State) (at : Visit) (step : Step) → AtRoot c st at.visit → PlaceDone p w w' at.visit.node at.visit.state step
    → RootDone p w w' st step
unfolding PlaceDone
root_placed p w w' c st at step root done =
    let x : Probed p (has 0) (entry at.visit.node.starts) w w' st step
    = subst (λ (s : State). Probed p (has 0) (entry at.visit.node.starts) w w' s step) root.same
    (subst (λ (n : ℕ). Probed p (has n) (entry at.visit.node.starts) w w' at.visit.state step) root.nobody done) in
    record {
      falls = x.improves.falls;
      settled = λ u. go step.walked u x.says;
      plan = λ m. (x.improves.reached m).plan_at;
      goes = x.goes;
    }
  where
    go : (k : Walked) → Unspent k → Says p (has 0) (entry at.visit.node.starts) step.state.limit.0 k → AllSettled p step.state.limit.0
    go (Dead b) u h = blame_nobody p (entry at.visit.node.starts) step.state.limit.0 b h
    go (Spent m) u h = absurd u
