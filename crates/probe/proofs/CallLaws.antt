-- What the calls of a probe ask and give, in the words of its two functions: a unit is placed, a start is tried.
-- Assumes nothing.
use Prim.Native.Nat.{ℕ, ◌+◌, ◌*◌, ◌-◌, ◌≤◌, ◌<◌}
use mathlib.Core.Path.{◌≡◌, refl, sym, ap, subst, subst₂}
use mathlib.Core.Bool.{false}
use mathlib.Core.List.{List}
use native.Mathlib.Nat.{le_trans}
use native.Mathlib.Omega.{arith}
use lib.ListN.{length, set}
use Rattle.sums.specs.NumSet.{has, with}
use Rattle.sums.specs.Table.{entry}
use Rattle.model.specs.Problem.{Problem}
use Rattle.model.specs.Nogood.{MOST_LIMIT}
use Rattle.instance.specs.declared.file.File.{File}
use Rattle.instance.specs.File.{problem}
use Rattle.instance.specs.Filed.{Filed}
use Rattle.overhaul.specs.Range.{StartRange}
use Rattle.overhaul.proofs.StartLaws.{range_in}
use Rattle.nogood.proofs.StockLaws.{stock_within}
use Rattle.tables.specs.Tables.{price_in}
use Rattle.relaxation.specs.Relaxed.{MemoTrue}
use Rattle.dual.specs.declared.Node.{Node}
use Rattle.dual.specs.Blame.{placed_after}
use Rattle.state.specs.declared.State.{State}
use Rattle.state.specs.declared.Step.{Step}
use Rattle.state.specs.declared.Walked.{Walked}
use Rattle.state.specs.declared.Walked.TheVariants.{Dead, Spent}
use Rattle.state.specs.State.{dead_at, DeadEndNoted}
use Rattle.std.proofs.Common.{Option, Some, None}
use Rattle.walk.specs.Walk.{TableTrue, Walking, LeavesUnit, GoesOn, TurnOf}
use Rattle.walk.proofs.StateLaws.{held_carried}
use Rattle.walk.proofs.NotedLaws.{later_noted}
use Rattle.probe.specs.declared.Visit.{Visit}
use Rattle.probe.specs.Probe.{unplaced, Chosen, Probed, Trying, Opened, Startable, PlaceDue, StartDue, WeighDue, Weighed}
use Rattle.probe.specs.Probe.{start_at, IsStart, PlaceDone, StartDone}
use Rattle.probe.proofs.PlanLaws.{goes_next, unplaced_falls}
use Rattle.probe.proofs.OpenLaws.{startable_at}
use Rattle.probe.proofs.UnitLaws.{trying_start, trying_all, probed_stopped, probed_jump, trying_next}

-- the same file and table, with a memo that has changed
walking_on : (file : File) (us memo memo' : List ℕ) → Walking file us memo → MemoTrue (problem file) (price_in us) memo'
    → Walking file us memo'
walking_on file us memo memo' h r = record { dual = h.dual; recalls = r }

-- ---- a unit is placed

-- a unit was chosen in a state and with a table; its starts from the first to before the end are tried, and those below v have failed
pub record Starting (file : File) (us rows ys : List ℕ) (at : Visit) (w : List ℕ) (unit end : ℕ) (w₁ : List ℕ) (s : State)
    (blame v : ℕ) (memo : List ℕ) : Type 0 where
  pub walking : Walking file us memo
  pub opened : Opened (problem file) w us rows ys at.visit.node at.visit.state
  pub inside : unit < (problem file).units
  pub fresh : has at.visit.node.placed unit ≡ false
  pub first : ℕ
  pub last : ℕ
  pub to_last : end ≡ last + 1
  pub range : StartRange (problem file) unit first last
  pub from : first ≤ v
  pub ends : last ≤ (problem file).weeks
  pub trying : Trying (problem file) (has at.visit.node.placed) (entry at.visit.node.starts) unit w w₁ at.visit.state s blame v

-- as one fact
unfoldable pub Starts : (file : File) → (us rows ys : List ℕ) → Visit → (w : List ℕ) → (unit end : ℕ) → (w₁ : List ℕ) → State
    → (blame v : ℕ) → (memo : List ℕ) → Type 0
Starts file us rows ys at w unit end w₁ s blame v memo = Starting file us rows ys at w unit end w₁ s blame v memo

module _ (file : File) (us rows ys : List ℕ) (at : Visit) (w memo : List ℕ) (d : PlaceDue file us rows ys at w memo) where
  -- it has a file
  pub place_filed : Filed file.words.now file.layout
  unfolding PlaceDue
  place_filed = file.filed

  -- and a limit
  pub place_small : at.visit.state.limit.0 ≤ MOST_LIMIT
  unfolding PlaceDue
  place_small = d.opened.small

  -- all units are placed
  pub place_leaf : (unit : ℕ) → Chosen file.layout.units at.visit.node.placed unit → file.layout.units ≤ unit → WeighDue file us rows ys at memo
  unfolding PlaceDue WeighDue
  place_leaf unit c last = record {
    w = w;
    needs = d;
    whole = record {
      all = λ i h. c.all last i (omega (arith, file.filed.units_are));
      within = d.opened.within;
    };
  }

  -- and the plan was weighed
  pub place_weighed : (step : Step) → Weighed (problem file) at.visit.node at.visit.state step → PlaceDone (problem file) w w at.visit.node at.visit.state step
  unfolding PlaceDone
  place_weighed step h = h.each w

  -- the number after a unit's last start fits a word
  pub place_fits : (last : ℕ) → last ≤ file.layout.weeks → last + 1 < 18446744073709551616
  place_fits last ends = omega (arith, file.filed.weeks_most)

  -- no start was tried
  pub place_starts : (unit first last : ℕ) → Chosen file.layout.units at.visit.node.placed unit → unit < file.layout.units → StartRange (problem file) unit first last
      → last ≤ file.layout.weeks → Starts file us rows ys at w unit (last + 1) w at.visit.state 0 first memo
  unfolding PlaceDue Starts
  place_starts unit first last c inside range ends =
      let in_units : unit < (problem file).units = omega (arith, file.filed.units_are) in
      record {
        walking = d.walking;
        opened = d.opened;
        inside = in_units;
        fresh = c.fresh inside;
        first = first;
        last = last;
        to_last = refl;
        range = range;
        from = omega arith;
        ends = omega (arith, file.filed.weeks_are);
        trying = trying_start (problem file) (has at.visit.node.placed) (entry at.visit.node.starts) unit first last w at.visit.state range in_units;
      }

module _ (file : File) (us rows ys : List ℕ) (at : Visit) (w : List ℕ) (unit end : ℕ) (w₁ : List ℕ) (s : State)
    (blame v : ℕ) (memo₁ : List ℕ) (h : Starts file us rows ys at w unit end w₁ s blame v memo₁) where
  abbrev prob : Problem
  prob = problem file

  t : Trying (problem file) (has at.visit.node.placed) (entry at.visit.node.starts) unit w w₁ at.visit.state s blame v
  unfolding Starts
  t = h.trying

  -- a unit is one of sixteen
  pub starts_few : unit < 16
  unfolding Starts
  starts_few = omega (arith, h.inside, file.filed.units_are, file.filed.units_most)

  pub starts_small : unit < 32
  starts_small = omega (arith, starts_few)

  -- a start is one of 52
  pub starts_within : v < end → v ≤ 52
  unfolding Starts
  starts_within here = omega (arith, h.to_last, h.ends, file.filed.weeks_are, file.filed.weeks_most)

  held : TableTrue (problem file) w₁ s.used
  unfolding Starts
  held = held_carried prob w w₁ at.visit.state.used s.used h.opened.held t.goes.carried

  -- a dead end can be noted
  pub starts_used : s.used ≤ length w₁
  starts_used = stock_within held.stock

  pub starts_most : file.layout.units ≤ 16
  unfolding Starts
  starts_most = file.filed.units_most

  pub starts_limit : s.limit.0 ≤ MOST_LIMIT
  unfolding Starts
  starts_limit = le_trans t.improves.falls h.opened.small

  -- the memo recalls
  pub starts_recalls : MemoTrue (problem file) (price_in us) memo₁
  unfolding Starts
  starts_recalls = h.walking.recalls

  -- all starts have failed, and the dead end was noted or not
  pub starts_done : (w₂ : List ℕ) (r : State) (step : Step) → end ≤ v → DeadEndNoted w₁ w₂ s r at.visit.node.starts file.layout.units blame
      → step ≡ dead_at r blame → PlaceDone (problem file) w w₂ at.visit.node at.visit.state step
  unfolding Starts PlaceDone
  starts_done w₂ r step ended k is =
      let b = trying_all prob (has at.visit.node.placed) at.visit.node.starts unit w w₁ at.visit.state s blame v t h.first h.last h.range h.inside (omega (arith, h.to_last)) in
      let carried = (later_noted prob w₁ w₂ s r at.visit.node.starts file.layout.units blame (omega (arith, file.filed.units_are)) starts_limit
      (λ i e. h.opened.stands.standing.permits i (t.within i e))
      (λ i e. omega (arith, h.opened.within i (t.within i e), file.filed.units_are)) b.closed k).carried in
      let limit_is = ap (λ (x : State). x.limit) k.state in
      let best_is = ap (λ (x : State). x.best) k.state in
      let tries_is = ap (λ (x : State). x.tries) k.state in
      let budget_is = ap (λ (x : State). x.budget) k.state in
      subst (PlaceDone prob w w₂ at.visit.node at.visit.state) (sym is) (record {
        improves = rw (limit_is, best_is) t.improves;
        says = rw limit_is b;
        goes = goes_next prob w w₁ w₂ at.visit.state s r t.goes
            (record { carried = carried; budget = budget_is; counted = λ m. rw (tries_is, budget_is) m });
      })

  module _ (here : v < end) (next : Visit) (start : IsStart at unit v s next) where
    long : unit < length at.visit.node.starts
    unfolding Starts
    long = omega (arith, starts_few, h.opened.long)

    startable : Startable (problem file) w₁ us rows ys (start_at at.visit.node unit v) s
    unfolding Starts
    startable =
        startable_at prob w us rows ys at.visit.node at.visit.state h.opened unit v h.fresh w₁ s h.inside starts_few
        (range_in prob unit h.first h.last v h.range h.from (omega (arith, h.to_last))) starts_limit held

    -- the next start is tried
    pub starts_try : StartDue file us rows ys next w₁ memo₁
    unfolding Starts StartDue
    starts_try = record {
      walking = h.walking;
      startable = subst₂ (Startable prob w₁ us rows ys) (sym start.node_is) (sym start.state_is) startable;
    }

    -- the measure falls
    pub starts_fall : (n : ℕ) → 2 * unplaced (problem file) (has at.visit.node.placed) ≡ n → 2 * unplaced (problem file) (has next.visit.node.placed) - 1 < n
    unfolding Starts
    starts_fall n e =
        let g = unplaced_falls prob (has at.visit.node.placed) unit h.inside h.fresh in
        let q = ap (λ (x : Node). unplaced prob (has x.placed)) start.node_is in
        omega (arith, g, q)

    module _ (w₂ : List ℕ) (step : Step) (done : StartDone (problem file) w₁ w₂ next step) (turn : Option ℕ) (told : TurnOf step blame unit turn) where
      own : Probed (problem file) (with (has at.visit.node.placed) unit) (entry (set at.visit.node.starts unit v)) w₁ w₂ s step
      unfolding StartDone
      own =
          subst₂ (λ (n : Node) (x : State). Probed prob (placed_after n) (entry n.starts) w₁ w₂ x step) start.node_is start.state_is done

      -- the probe stops, or the unit has no share in the dead end: it jumps back
      left : turn ≡ None → PlaceDone (problem file) w w₂ at.visit.node at.visit.state step
      unfolding Starts PlaceDone
      left so = go step.walked refl (subst (TurnOf step blame unit) so told)
        where
          go : (k : Walked) → step.walked ≡ k → LeavesUnit unit k
              → Probed (problem file) (has at.visit.node.placed) (entry at.visit.node.starts) w w₂ at.visit.state step
          go (Spent m) e _ =
              probed_stopped prob (has at.visit.node.placed) at.visit.node.starts unit w w₁ at.visit.state s blame v t h.fresh long w₂ step own m e
          go (Dead b) e free =
              probed_jump prob (has at.visit.node.placed) at.visit.node.starts unit w w₁ at.visit.state s blame v t h.fresh long w₂ step own b e free

      -- it shares it: the next start
      next_start : (memo₂ : List ℕ) (both : ℕ) → turn ≡ Some both → MemoTrue (problem file) (price_in us) memo₂
          → Starts file us rows ys at w unit end w₂ step.state both (v + 1) memo₂
      unfolding Starts
      next_start memo₂ both so recalls = go step.walked refl (subst (TurnOf step blame unit) so told)
        where
          go : (k : Walked) → step.walked ≡ k → GoesOn blame unit both k
              → Starting file us rows ys at w unit end w₂ step.state both (v + 1) memo₂
          go (Spent m) e x = absurd x
          go (Dead b) e union = record {
            walking = walking_on file us memo₁ memo₂ h.walking recalls;
            opened = h.opened;
            inside = h.inside;
            fresh = h.fresh;
            first = h.first;
            last = h.last;
            to_last = h.to_last;
            range = h.range;
            from = omega (arith, h.from);
            ends = h.ends;
            trying = trying_next prob (has at.visit.node.placed) at.visit.node.starts unit w w₁ at.visit.state s blame v t h.fresh long w₂ step own b e
                both union;
          }

-- the same two with the facts that a search tells apart first
pub starts_left : (file : File) (us rows ys : List ℕ) (at : Visit) (w : List ℕ) (unit end : ℕ) (w₁ : List ℕ) (s : State)
    (blame v : ℕ) (memo₁ : List ℕ) (next : Visit) (w₂ : List ℕ) (step : Step) (turn : Option ℕ)
    → Starts file us rows ys at w unit end w₁ s blame v memo₁ → IsStart at unit v s next → StartDone (problem file) w₁ w₂ next step
    → TurnOf step blame unit turn → v < end → turn ≡ None → PlaceDone (problem file) w w₂ at.visit.node at.visit.state step
starts_left file us rows ys at w unit end w₁ s blame v memo₁ next w₂ step turn h start done told here =
    left file us rows ys at w unit end w₁ s blame v memo₁ h here next start w₂ step done turn told

pub starts_next : (file : File) (us rows ys : List ℕ) (at : Visit) (w : List ℕ) (unit end : ℕ) (w₁ : List ℕ) (s : State)
    (blame v : ℕ) (memo₁ : List ℕ) (next : Visit) (w₂ : List ℕ) (step : Step) (turn : Option ℕ) (both : ℕ) (memo₂ : List ℕ)
    → Starts file us rows ys at w unit end w₁ s blame v memo₁ → IsStart at unit v s next → StartDone (problem file) w₁ w₂ next step
    → TurnOf step blame unit turn → MemoTrue (problem file) (price_in us) memo₂ → v < end → turn ≡ Some both
    → Starts file us rows ys at w unit end w₂ step.state both (v + 1) memo₂
starts_next file us rows ys at w unit end w₁ s blame v memo₁ next w₂ step turn both memo₂ h start done told recalls here so =
    next_start file us rows ys at w unit end w₁ s blame v memo₁ h here next start w₂ step done turn told memo₂ both so recalls

-- a table keeps its length
pub place_long : (p : Problem) (w w' : List ℕ) (at : Visit) (step : Step) → StartDone p w w' at step → length w' ≡ length w
unfolding StartDone
place_long p w w' at step d = d.goes.carried.long
