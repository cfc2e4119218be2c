-- What the calls of the walk ask and give, in the words of its two functions: a unit is placed, a start is tried.
-- Assumes nothing.
use Prim.Native.Nat.{ℕ, suc, ◌+◌, ◌*◌, ◌-◌, ◌≤◌, ◌<◌}
use mathlib.Core.Path.{◌≡◌, refl, sym, ◌∙◌, ap, subst, subst₂}
use mathlib.Core.List.{List}
use native.Mathlib.Nat.{le_trans}
use native.Mathlib.Omega.{arith}
use lib.ListN.{length, set}
use borrow.Author.Tests.{ltb-true, lt-ltb}
use Rattle.sums.specs.Table.{entry}
use Rattle.model.specs.Problem.{Problem}
use Rattle.model.specs.Prefix.{tree_size}
use Rattle.model.specs.Nogood.{MOST_LIMIT}
use Rattle.model.proofs.FileLaws.{fair}
use Rattle.instance.specs.declared.file.File.{File}
use Rattle.instance.specs.File.{problem}
use Rattle.instance.specs.Filed.{Filed}
use Rattle.overhaul.specs.Range.{StartRange}
use Rattle.nogood.proofs.StockLaws.{stock_within}
use Rattle.tables.specs.Tables.{price_in}
use Rattle.relaxation.specs.Relaxed.{MemoTrue}
use Rattle.dual.specs.declared.Node.{Node}
use Rattle.dual.specs.Blame.{IsNext}
use Rattle.std.proofs.Common.{Option, Some, None, Result, Ok, Err}
use Rattle.bound.specs.Rows.{RowsDue, RowsWith}
use Rattle.state.specs.declared.State.{State}
use Rattle.state.specs.declared.Step.{Step}
use Rattle.state.specs.declared.Walked.{Walked}
use Rattle.state.specs.declared.Walked.TheVariants.{Dead, Spent}
use Rattle.state.specs.State.{stopped_at, dead_at, DeadEndNoted}
use Rattle.walk.specs.declared.Visit.{Visit}
use Rattle.walk.specs.Walk.{IsStart, Open, Walking, PlaceDue, TryNeeds, TryDue, Taken, Refuted, TryTaken, PlaceDone, TryDone, LeavesUnit, GoesOn, TurnOf, Done, try_room, place_room, LeafDue, Leaf}
use Rattle.walk.proofs.StateLaws.{held_later}
use Rattle.walk.proofs.PlaceLaws.{places_to_try, places_to_place}
use Rattle.walk.proofs.NotedLaws.{later_noted}
use Rattle.walk.proofs.TryLaws.{done_stopped, done_fails, opened, done_leaf, done_place}
use Rattle.walk.proofs.JudgedLaws.{try_few}
use Rattle.walk.proofs.UnitLaws.{Trying, trying_none, some_start, untried, done_spent, done_jump, trying_more, done_all}

-- the same file and table, with a memo that has changed
walking_on : (file : File) (us memo memo' : List ℕ) → Walking file us memo → MemoTrue (problem file) (price_in us) memo'
    → Walking file us memo'
walking_on file us memo memo' h r = record { dual = h.dual; recalls = r }

-- ---- a unit is placed

-- a unit was open in a state and with a table; its starts from the first to before the end are tried, and those below v have failed
pub record Starting (file : File) (us rows ys : List ℕ) (node : Node) (st : State) (w : List ℕ) (first end : ℕ) (w₁ : List ℕ) (s : State)
    (blame v : ℕ) (memo : List ℕ) : Type 0 where
  pub walking : Walking file us memo
  pub open_at : Open (problem file) w us rows ys node st
  pub inside : node.unit < (problem file).units
  pub last : ℕ
  pub to_last : end ≡ last + 1
  pub range : StartRange (problem file) node.unit first last
  pub ends : last ≤ (problem file).weeks
  pub trying : Trying (problem file) w w₁ node.starts node.unit st s blame first v

-- as one fact
unfoldable pub Starts : (file : File) → (us rows ys : List ℕ) → Node → State → (w : List ℕ) → (first end : ℕ) → (w₁ : List ℕ) → State
    → (blame v : ℕ) → (memo : List ℕ) → Type 0
Starts file us rows ys node st w first end w₁ s blame v memo = Starting file us rows ys node st w first end w₁ s blame v memo

module _ (file : File) (us rows ys : List ℕ) (at : Visit) (w memo : List ℕ) (d : PlaceDue file us rows ys at w memo) where
  abbrev p : Problem
  p = problem file

  -- it has a file
  pub place_filed : Filed file.words.now file.layout
  unfolding PlaceDue
  place_filed = file.filed

  -- all units are placed
  pub place_leaf : file.layout.units ≤ at.node.unit → LeafDue file us rows ys at memo
  unfolding PlaceDue LeafDue
  place_leaf last = record {
    walking = d.walking;
    whole = record {
      all = λ i h. d.open_at.order.each i ∙ lt-ltb i at.node.unit (omega (arith, d.open_at.unit, file.filed.units_are));
      within = λ i e. omega (arith, ltb-true i at.node.unit (sym (d.open_at.order.each i) ∙ e), d.open_at.unit);
    };
    stands = d.open_at.stands;
    tallied = d.open_at.tallied;
    small = d.open_at.small;
  }

  -- and the schedule was weighed
  pub place_weighed : (step : Step) → file.layout.units ≤ at.node.unit → Leaf (problem file) at.node.starts at.state step
      → PlaceDone (problem file) w w at.node at.state step
  unfolding PlaceDue PlaceDone
  place_weighed step last h =
      done_leaf (problem file) w us rows ys at.node at.state d.open_at (fair file.words.now file.filed.passed) (omega (arith, d.open_at.unit, file.filed.units_are)) step h

  -- the number after its last start fits a word
  pub place_fits : (last : ℕ) → last ≤ file.layout.weeks → last + 1 < 18446744073709551616
  place_fits last ends = omega (arith, file.filed.weeks_most)

  -- no start was tried
  pub place_starts : (first last : ℕ) → at.node.unit < file.layout.units → StartRange (problem file) at.node.unit first last → last ≤ file.layout.weeks
      → Starts file us rows ys at.node at.state w first (last + 1) w at.state 0 first memo
  unfolding PlaceDue Starts
  place_starts first last inside range ends =
      let in_units : at.node.unit < p.units = omega (arith, file.filed.units_are) in
      record {
        walking = d.walking;
        open_at = d.open_at;
        inside = in_units;
        last = last;
        to_last = refl;
        range = range;
        ends = omega (arith, file.filed.weeks_are);
        trying = trying_none p w us rows ys at.node at.state first last range in_units d.open_at;
      }

module _ (file : File) (us rows ys : List ℕ) (node : Node) (st : State) (w : List ℕ) (first end : ℕ) (w₁ : List ℕ) (s : State)
    (blame v : ℕ) (memo₁ : List ℕ) (h : Starts file us rows ys node st w first end w₁ s blame v memo₁) where
  abbrev prob : Problem
  prob = problem file

  t : Trying (problem file) w w₁ node.starts node.unit st s blame first v
  unfolding Starts TryDue TryDone PlaceDone
  t = h.trying

  -- a unit is one of sixteen
  pub starts_few : node.unit < 16
  unfolding Starts TryDue TryDone PlaceDone
  starts_few = omega (arith, h.inside, file.filed.units_are, file.filed.units_most)

  pub starts_small : node.unit < 32
  unfolding Starts TryDue TryDone PlaceDone
  starts_small = omega (arith, starts_few)

  -- a start is one of 52
  pub starts_within : v < end → v ≤ 52
  unfolding Starts TryDue TryDone PlaceDone
  starts_within here = omega (arith, h.to_last, h.ends, file.filed.weeks_are, file.filed.weeks_most)

  -- a dead end can be noted
  pub starts_used : s.used ≤ length w₁
  unfolding Starts TryDue TryDone PlaceDone
  starts_used = stock_within (held_later prob w w₁ st s h.open_at.held t.later).stock

  pub starts_most : node.unit ≤ 16
  starts_most = omega (arith, starts_few)

  pub starts_limit : s.limit.0 ≤ MOST_LIMIT
  unfolding Starts TryDue TryDone PlaceDone
  starts_limit = le_trans t.later.falls h.open_at.small

  -- the memo recalls
  pub starts_recalls : MemoTrue (problem file) (price_in us) memo₁
  unfolding Starts TryDue TryDone PlaceDone
  starts_recalls = h.walking.recalls

  -- all starts have failed, and the dead end was noted or not
  pub starts_done : (w₂ : List ℕ) (r : State) (step : Step) → end ≤ v → DeadEndNoted w₁ w₂ s r node.starts node.unit blame
      → step ≡ dead_at r blame → PlaceDone (problem file) w w₂ node st step
  unfolding Starts TryDue TryDone PlaceDone
  starts_done w₂ r step ended k is =
      subst (PlaceDone prob w w₂ node st) (sym is)
      (done_all prob w w₁ us rows ys node st s blame first h.last v h.range h.inside h.open_at t (omega (arith, h.to_last)) w₂ r
      (λ closed. later_noted prob w₁ w₂ s r node.starts node.unit blame (omega (arith, h.inside)) (le_trans t.later.falls
      h.open_at.small) (λ i b. h.open_at.stands.standing.permits i (h.open_at.order.each i ∙ lt-ltb i node.unit (t.under i b))) t.under closed k)
      (ap (λ (x : State). x.limit) k.state) (ap (λ (x : State). x.tries) k.state) (ap (λ (x : State). x.found) k.state)
      (ap (λ (x : State). x.best) k.state) (ap (λ (x : State). x.budget) k.state))

  module _ (here : v < end) (next : Visit) (start : IsStart node v s next) where
    -- the next start is tried
    pub starts_try : TryDue file us rows ys next w₁ memo₁
    unfolding Starts TryDue
    starts_try = subst (λ (x : Visit). TryNeeds file us rows ys x w₁ memo₁) (sym start.is) (record {
      walking = h.walking;
      untried = untried prob w w₁ us rows ys node st s blame first h.last v h.range h.ends h.inside h.open_at t (omega (arith, h.to_last));
    })

    -- with fewer places at and below it
    pub starts_fall : (n : ℕ) → 2 * tree_size (problem file) ((problem file).units - node.unit) - 1 ≡ n
        → 2 * tree_size (problem file) ((problem file).units - suc next.node.unit) < n
    unfolding Starts
    starts_fall n e =
        subst (λ (x : Visit). 2 * tree_size prob (prob.units - suc x.node.unit) < n) (sym start.is)
        (subst (λ (x : ℕ). 2 * tree_size prob (prob.units - suc node.unit) < x) e
        (places_to_try prob node.unit h.inside
        (some_start prob w w₁ us rows ys node st s blame first h.last v h.range h.ends h.inside h.open_at t (omega (arith, h.to_last)))))

    module _ (w₂ : List ℕ) (step : Step) (done : TryDone (problem file) w₁ w₂ next step) (turn : Option ℕ) (told : TurnOf step blame node.unit turn) where
      own : Done (problem file) w₁ w₂ (set node.starts node.unit v) (node.unit + 1) (try_room (problem file) node.unit) s step
      unfolding TryDone
      own = subst (λ (x : Visit). TryDone prob w₁ w₂ x step) start.is done

      -- the budget is spent, or the unit has no share in the dead end: the walk jumps back
      left : turn ≡ None → PlaceDone (problem file) w w₂ node st step
      unfolding Starts PlaceDone
      left so = go step.walked refl (subst (TurnOf step blame node.unit) so told)
        where
          go : (k : Walked) → step.walked ≡ k → LeavesUnit node.unit k
              → Done (problem file) w w₂ node.starts node.unit (place_room (problem file) node.unit) st step
          go (Spent m) e _ =
              done_spent prob w w₁ us rows ys node st s blame first h.last v h.range h.ends h.inside h.open_at t (omega (arith, h.to_last)) w₂ step own m e
          go (Dead b) e free =
              done_jump prob w w₁ us rows ys node st s blame first h.last v h.range h.ends h.inside h.open_at t (omega (arith, h.to_last)) w₂ step own b e free

      -- it shares it: the next start
      next_start : (memo₂ : List ℕ) (both : ℕ) → turn ≡ Some both → MemoTrue (problem file) (price_in us) memo₂
          → Starts file us rows ys node st w first end w₂ step.state both (v + 1) memo₂
      unfolding Starts
      next_start memo₂ both so recalls = go step.walked refl (subst (TurnOf step blame node.unit) so told)
        where
          go : (k : Walked) → step.walked ≡ k → GoesOn blame node.unit both k
              → Starting file us rows ys node st w first end w₂ step.state both (v + 1) memo₂
          go (Spent m) e x = absurd x
          go (Dead b) e union = record {
            walking = walking_on file us memo₁ memo₂ h.walking recalls;
            open_at = h.open_at;
            inside = h.inside;
            last = h.last;
            to_last = h.to_last;
            range = h.range;
            ends = h.ends;
            trying = trying_more prob w w₁ us rows ys node st s blame first h.last v h.range h.ends h.inside h.open_at t (omega (arith, h.to_last)) w₂ step own b e
                both union.sets;
          }

-- the same two with the facts that a search tells apart first
pub starts_left : (file : File) (us rows ys : List ℕ) (node : Node) (st : State) (w : List ℕ) (first end : ℕ) (w₁ : List ℕ) (s : State)
    (blame v : ℕ) (memo₁ : List ℕ) (next : Visit) (w₂ : List ℕ) (step : Step) (turn : Option ℕ)
    → Starts file us rows ys node st w first end w₁ s blame v memo₁ → IsStart node v s next → TryDone (problem file) w₁ w₂ next step
    → TurnOf step blame node.unit turn → v < end → turn ≡ None → PlaceDone (problem file) w w₂ node st step
starts_left file us rows ys node st w first end w₁ s blame v memo₁ next w₂ step turn h start done told here =
    left file us rows ys node st w first end w₁ s blame v memo₁ h here next start w₂ step done turn told

pub starts_next : (file : File) (us rows ys : List ℕ) (node : Node) (st : State) (w : List ℕ) (first end : ℕ) (w₁ : List ℕ) (s : State)
    (blame v : ℕ) (memo₁ : List ℕ) (next : Visit) (w₂ : List ℕ) (step : Step) (turn : Option ℕ) (both : ℕ) (memo₂ : List ℕ)
    → Starts file us rows ys node st w first end w₁ s blame v memo₁ → IsStart node v s next → TryDone (problem file) w₁ w₂ next step
    → TurnOf step blame node.unit turn → MemoTrue (problem file) (price_in us) memo₂ → v < end → turn ≡ Some both
    → Starts file us rows ys node st w first end w₂ step.state both (v + 1) memo₂
starts_next file us rows ys node st w first end w₁ s blame v memo₁ next w₂ step turn both memo₂ h start done told recalls here so =
    next_start file us rows ys node st w first end w₁ s blame v memo₁ h here next start w₂ step done turn told memo₂ both so recalls

-- a table keeps its length
pub place_long : (p : Problem) (w₀ w w' : List ℕ) (at : Visit) (step : Step) → TryDone p w w' at step → length w ≡ length w₀ → length w' ≡ length w₀
unfolding TryDone
place_long p w₀ w w' at step d e = d.later.carried.long ∙ e

-- ---- a start is tried

module _ (file : File) (us rows ys : List ℕ) (at : Visit) (w memo : List ℕ) (d : TryDue file us rows ys at w memo) where
  -- and a memo
  pub try_recalls : MemoTrue (problem file) (price_in us) memo
  unfolding TryDue
  try_recalls = d.walking.recalls

  -- the weeks' values have 52 places
  pub try_long : 52 ≡ length ys
  unfolding TryDue
  try_long = sym d.untried.stands.bounds.values.long

  -- the next unit's number fits a word
  pub try_fits : at.node.unit + 1 < 18446744073709551616
  unfolding TryDue PlaceDue TryDone PlaceDone
  try_fits = let few = try_few file us rows ys at w memo d in omega arith

  -- the budget is spent
  pub try_stops : (k : ℕ) (step : Step) → k ≡ at.node.unit + 1 → at.state.budget ≤ at.state.tries
      → step ≡ stopped_at at.state at.node.starts k → TryDone (problem file) w w at step
  unfolding TryDue PlaceDue TryDone PlaceDone
  try_stops k step e h is =
      subst (TryDone (problem file) w w at) (sym is) (done_stopped (problem file) w us rows ys at.node at.state d.untried k e h)

-- it fails
pub taken_fails : (file : File) (us rows ys : List ℕ) (at : Visit) (w memo zs memo₁ : List ℕ) (r : Result Visit Step)
    → TryTaken file us rows ys at w memo zs memo₁ r → (step : Step) → r ≡ Err step → TryDone (problem file) w w at step
unfolding TryTaken TryDone
taken_fails file us rows ys at w memo zs memo₁ r j step t =
    let d : Refuted file us rows ys at w memo zs memo₁ step = subst (TryTaken file us rows ys at w memo zs memo₁) t j in
    subst (TryDone (problem file) w w at) (sym d.step_is)
    (done_fails (problem file) w us rows ys at.node at.state d.judging.due.untried d.b d.judging.said)

pub taken_dead_recalls : (file : File) (us rows ys : List ℕ) (at : Visit) (w memo zs memo₁ : List ℕ) (r : Result Visit Step) (step : Step)
    → TryTaken file us rows ys at w memo zs memo₁ r → r ≡ Err step → MemoTrue (problem file) (price_in us) memo₁
unfolding TryTaken
taken_dead_recalls file us rows ys at w memo zs memo₁ r step j t =
    let d : Refuted file us rows ys at w memo zs memo₁ step = subst (TryTaken file us rows ys at w memo zs memo₁) t j in d.judging.recalls

-- it holds
module _ (file : File) (us rows ys : List ℕ) (at : Visit) (w memo zs memo₁ : List ℕ) (r : Result Visit Step)
    (j : TryTaken file us rows ys at w memo zs memo₁ r) (next : Visit) (is : r ≡ Ok next) where
  taken : Taken file us rows ys at w memo zs memo₁ next
  unfolding TryTaken
  taken = subst (TryTaken file us rows ys at w memo zs memo₁) is j

  goes : IsNext at.node taken.bound next.node
  goes = taken.goes.node_is

  -- the file, and the memo as it recalls now
  pub taken_filed : Filed file.words.now file.layout
  taken_filed = file.filed

  pub taken_recalls : MemoTrue (problem file) (price_in us) memo₁
  taken_recalls = taken.judging.recalls

  -- what its rows ask
  pub taken_rows : RowsDue (problem file) rows (entry at.node.starts) at.node.unit
  taken_rows =
      let u = taken.judging.due.untried in
      record { unit = u.unit; permits = u.permits; long = u.tallied.long; tallies = u.tallied.tallies }

  -- the next unit is to be placed
  pub taken_places : (out : List ℕ) → RowsWith (problem file) rows (entry at.node.starts) at.node.unit out
      → PlaceDue file us out zs next w memo₁
  unfolding PlaceDue
  taken_places out tallied = record {
    walking = walking_on file us memo memo₁ taken.judging.due.walking taken.judging.recalls;
    open_at = subst (Open (problem file) w us out zs next.node) (sym taken.goes.state_is)
        (opened (problem file) w us rows ys at.node at.state taken.judging.due.untried out zs taken.bound next.node goes taken.judging.said tallied);
  }

  -- with fewer places below it
  pub taken_falls : (n : ℕ) → 2 * tree_size (problem file) ((problem file).units - suc at.node.unit) ≡ n
      → 2 * tree_size (problem file) ((problem file).units - next.node.unit) - 1 < n
  taken_falls n en =
      subst (λ (x : Node). 2 * tree_size (problem file) ((problem file).units - x.unit) - 1 < n) (sym goes.is)
      (subst (λ (x : ℕ). 2 * tree_size (problem file) ((problem file).units - (at.node.unit + 1)) - 1 < x) en
      (places_to_place (problem file) at.node.unit))

  -- it was
  pub taken_placed : (w₂ : List ℕ) (step : Step) → PlaceDone (problem file) w w₂ next.node next.state step → TryDone (problem file) w w₂ at step
  unfolding TryDone PlaceDone
  taken_placed w₂ step done =
      done_place (problem file) w w₂ at.node.starts at.node.unit at.state step
      (subst₂ (λ (x : Node) (s : State). PlaceDone (problem file) w w₂ x s step) goes.is taken.goes.state_is done)
