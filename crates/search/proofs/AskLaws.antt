-- One ask from end to end: its walk begins with no unit placed, ends, and leaves its answer and the table.
-- Assumes nothing.
use Prim.Native.Nat.{ℕ, zero, suc, ◌+◌, ◌-◌, ◌≤◌, ◌<◌}
use mathlib.Core.Path.{◌≡◌, refl, sym, ◌∙◌, ap, subst}
use mathlib.Core.Bool.{Bool, true, false}
use mathlib.Core.List.{List, [], ◌∷◌}
use native.Mathlib.Omega.{arith}
use lib.ListN.{length, replicate}
use borrow.Author.Tests.{eqb-true, ne_eqb, le-ltb}
use Rattle.sums.specs.Range.{list_to, first_to}
use Rattle.sums.specs.NumSet.{has}
use Rattle.sums.specs.Table.{entry}
use Rattle.sums.proofs.LogicLaws.{true_false}
use Rattle.sums.proofs.RangeLaws.{first_is}
use Rattle.sums.proofs.NumSetLaws.{zero_has}
use Rattle.sums.proofs.CountLaws.{count_less}
use Rattle.model.specs.Problem.{Problem, Fair}
use Rattle.model.specs.Words.{problem_of}
use Rattle.model.specs.Domain.{permitted, starts_below, start_count}
use Rattle.model.specs.Schedule.{Schedule, Sound}
use Rattle.model.specs.Prefix.{prefixes}
use Rattle.model.specs.Nogood.{MOST_LIMIT, Nogood}
use Rattle.model.specs.Answer.{optimal, Correct}
use Rattle.model.specs.Asks.{concludes}
use Rattle.model.proofs.DomainLaws.{permits_below}
use Rattle.model.proofs.FileLaws.{ranged, fair}
use Rattle.instance.specs.declared.file.File.{File}
use Rattle.instance.specs.File.{problem}
use Rattle.instance.specs.declared.Euro.{Euro}
use Rattle.nogood.specs.Noting.{KEPT_FREE, end_bounds, end_used, ended}
use Rattle.nogood.specs.Stock.{Stock, Grown, DeadEnds}
use Rattle.nogood.proofs.StockLaws.{grown_next, stock_ended, ended_room, ended_length}
use Rattle.std.proofs.Common.{Result, Ok, Err}
use Rattle.bound.specs.Tests.{Blames, AllStand, AllBlame, RootValues, Rooted, RootDue, no_start, some_startless, RunsOf, Permits}
use Rattle.bound.proofs.RowLaws.{rows_none}
use Rattle.state.specs.declared.State.{State}
use Rattle.state.specs.declared.Step.{Step}
use Rattle.state.specs.declared.Walked.{Walked}
use Rattle.state.specs.declared.Walked.TheVariants.{Dead, Spent}
use Rattle.state.specs.State.{dead_at, with_table, EndNoted, WalkStart}
use Rattle.blame.specs.Free.{NoSchedule}
use Rattle.farkas.specs.Sums.{ShowsNone}
use Rattle.search.specs.declared.Ask.{Ask}
use Rattle.search.specs.declared.Reply.{Reply}
use Rattle.walk.specs.declared.Visit.{Visit}
use Rattle.walk.specs.Walk.{Incumbent, TableTrue, PlaceDue, PlaceDone, WalkEnds, AllSettled, AtRoot, WalkDue, Closes, Finished}
use Rattle.search.specs.Ask.{answer_for, answer_in, ReplyOfDue, ReplyOf, AskDue, AskSearched, Asked}
use Rattle.search.specs.Walks.{SearchDue, SearchDone}
use Rattle.walk.proofs.StateLaws.{later_same}
use Rattle.search.proofs.ReplyLaws.{answer_correct, never_spent}

nobody_below : {i : ℕ} {A : Type 0} → i < 0 → A
nobody_below l = absurd (omega arith)

-- ---- a walk that does not begin

-- where a unit has no permitted start there is no sound schedule
startless_none : (p : Problem) → Fair p → some_startless p ≡ true → (s : Schedule) → Sound p s → ⊥
unfolding some_startless no_start start_count starts_below
startless_none p fair e s sound =
    let u = first_is p.units (no_start p) e in
    let i = first_to p.units (no_start p) in
    let h : i < p.units = u.below in
    let ok = sound.schedule.permits i h in
    omega (
      arith,
      eqb-true (start_count p i) 0 u.holds,
      count_less (p.weeks + 1) (s.start i) (permitted p i) (permits_below p fair i (s.start i) h ok) ok,
    )

-- where nobody is to blame, nothing is below the limit
blame_nobody : (p : Problem) (starts : ℕ → ℕ) (limit b : ℕ) → Blames p (has 0) starts limit b → AllSettled p limit
blame_nobody p starts limit b h = record { costs = λ s sound. h.closed.costs s sound (λ i l e. true_false (sym (h.within i e) ∙ zero_has i)) }

-- so the ask is settled before a start is tried
finished_none : (ws : List ℕ) (w : List ℕ) (st : State) (step : Step) → NoSchedule (problem_of ws) → step ≡ dead_at st 0 → Finished (problem_of ws) w w st step
finished_none ws w st step none is = subst (Finished (problem_of ws) w w st) (sym is) (record {
  later = later_same (problem_of ws) w st;
  closes = record { costs = λ s sound. absurd (none.never s sound) };
})

-- a unit has no permitted start
pub finished_startless : (file : File) (us w memo : List ℕ) (st : State) (some shown : Bool) (step : Step) → SearchDue file us st shown w memo
    → some ≡ some_startless (problem file) → some ≡ true → step ≡ dead_at st 0 → SearchDone (problem file) w w st step shown
finished_startless file us w memo st some shown step d e so is = record {
  finished = finished_none file.words.now w st step (record {
    never = startless_none (problem file) (fair file.words.now file.filed.passed) (sym e ∙ so);
  }) is;
  none = d.none;
}

-- it is known that there is no schedule
pub finished_shown : (file : File) (us w memo : List ℕ) (st : State) (shown : Bool) (step : Step) → SearchDue file us st shown w memo
    → shown ≡ true → step ≡ dead_at st 0 → SearchDone (problem file) w w st step shown
finished_shown file us w memo st shown step d so is = record { finished = finished_none file.words.now w st step (d.none.none so) is; none = d.none }

-- ---- a walk that does

module _ (file : File) (us w memo : List ℕ) (st : State) (d : WalkDue file us st w memo) where
  -- what the root asks
  pub walk_root : RootDue file us st.limit.0
  walk_root = record { dual = d.walking.dual; small = d.fresh.small }

  module _ (v : Result Euro ℕ) (said : Rooted (problem file) us st.limit.0 v) where
    -- before any unit is placed nothing is left below the limit
    pub walk_fails : (b : ℕ) (step : Step) → v ≡ Err b → step ≡ dead_at st 0 → Finished (problem file) w w st step
    walk_fails b step e is =
        let h : AllBlame (problem file) st.limit.0 b = subst (Rooted (problem file) us st.limit.0) e said in
        subst (Finished (problem file) w w st) (sym is) (record {
          later = later_same (problem file) w st;
          closes = blame_nobody (problem file) (λ i. 0) st.limit.0 b (h.each (λ i. 0));
        })

    -- no unit is placed
    pub walk_places : (c : Euro) (rows ys : List ℕ) (at : Visit) → v ≡ Ok c → rows ≡ replicate 52 0 → RootValues us ys → AtRoot c.0 st at
        → PlaceDue file us rows ys at w memo
    unfolding PlaceDue
    walk_places c rows ys at e none fronts root =
        let g = ranged file.words.now file.filed.passed in
        let stands : AllStand (problem file) us ys c.0 = subst (Rooted (problem file) us st.limit.0) e said ys fronts in
        record {
          walking = d.walking;
          open_at = record {
            unit = omega (arith, root.none, g.units_some);
            long = omega (arith, root.long, g.units_most);
            order = record { each = λ i. rw (root.nobody, root.none) (zero_has i ∙ sym (le-ltb i 0 (omega arith))) };
            stands = rw (root.nobody, root.bound_is) (stands.each (entry at.node.starts));
            tallied = rw root.nobody (rows_none (problem file) (entry at.node.starts) rows none);
            settled = record { costs = λ s sound u. nobody_below (subst (λ (k : ℕ). u.at < k) root.none u.below) };
            past = λ q. true_false (sym q ∙ (ap (λ (x : State). x.found) root.same ∙ d.fresh.nothing));
            counted = omega (arith, ap (λ (x : State). x.tries) root.same, d.fresh.tries);
            small = rw root.same d.fresh.small;
            held = rw root.same d.fresh.held;
          };
        }

-- all units were placed in turn
pub walk_placed : (p : Problem) (w w' : List ℕ) (c : ℕ) (st : State) (at : Visit) (step : Step) → AtRoot c st at → PlaceDone p w w' at.node at.state step
    → Finished p w w' st step
unfolding PlaceDone
walk_placed p w w' c st at step root done = record { later = rw root.same at done.later; closes = rw root.same at (go step.walked done.ends) }
  where
    go : (k : Walked) → WalkEnds p at.state.budget at.node.starts at.node.unit step.state k → Closes p at.state.budget step.state k
    go (Dead b) o = record {
      costs = λ s sound. o.closed.costs s sound (λ i l e. nobody_below (subst (λ (k : ℕ). i < k) root.none (o.within i e)));
    }
    go (Spent m) h = h

-- ---- the ask

module _ (p : Problem) (ceiling budget used : ℕ) (w w' : List ℕ) (st : State) (step : Step) (b : WalkStart ceiling budget used st)
    (ended-so : Finished p w w' st step) where
  -- the best so far at the end
  led : Incumbent p ceiling step.state
  led = ended-so.later.kept ceiling (record {
    under = omega (arith, b.limit);
    none = λ e. b.limit;
    plan = λ e. true_false (sym e ∙ b.nothing);
  })

  -- a plan's starts are permitted
  best_permits : step.state.found ≡ true → Permits p (entry step.state.best)
  best_permits e = record { each = (led.plan e).sound.schedule.permits }

  -- there is space for the end of the walk
  end_fits : used < length w → TableTrue p w used → step.state.used < length w'
  end_fits h held =
      let r = ended-so.later.carried.room (length w - 1) (omega (arith, b.used)) (omega arith) in
      omega (arith, r, ended-so.later.carried.long)

  end_small : ceiling < MOST_LIMIT → step.state.limit.0 ≤ MOST_LIMIT
  end_small h = omega (arith, ended-so.later.falls, b.limit)

  -- the bounds alone that the answer stands for are those that the conclusion adds
  ends_as : (runs : List ℕ) (e : Bool) → step.state.found ≡ e → (b' : ℕ)
      → concludes ceiling (answer_for p step.state.limit.0 step.state.best step.state.mark runs e (Dead b')) ≡ end_bounds
      step.state.limit.0
  unfolding concludes end_bounds
  ends_as runs true q b' = go step.state.limit.0
    where
      go : (n : ℕ) → concludes ceiling (optimal n (list_to p.units (entry step.state.best)) (list_to p.weeks (entry runs))) ≡ end_bounds n
      go zero = refl
      go (suc n) = rw (ne_eqb (suc n) 0 (λ z. omega arith)) (ap (λ (k : ℕ). k ∷ []) (let e : n ≡ suc n - 1 = omega arith in e))
  ends_as runs false q b' = rw (led.none q, ne_eqb (ceiling + 1) 0 (λ z. omega arith)) (ap (λ (n : ℕ). n ∷ [])
      (let e : ceiling ≡ ceiling + 1 - 1 = omega arith in e))

  module _ (fair : Fair p) (small : ceiling < MOST_LIMIT) (space : used < length w) (held : TableTrue p w used) (runs : List ℕ)
      (are : step.state.found ≡ true → RunsOf p (entry step.state.best) runs)
      (idle : some_startless p ≡ true → step ≡ dead_at st 0) (w'' : List ℕ) where
    -- a unit without starts settles it at once
    settled_idle : some_startless p ≡ true → (step.walked ≡ Dead 0) × (step.state.tries ≡ 0)
    settled_idle e = (ap (λ (x : Step). x.walked) (idle e), ap (λ (x : Step). x.state.tries) (idle e) ∙ b.tries)

    correct : Correct p ceiling budget (answer_in p step.state runs step.walked)
    correct =
        answer_correct p fair ceiling budget step.state runs led are step.walked
        (subst (λ (n : ℕ). Closes p n step.state step.walked) b.budget_is ended-so.closes)

    stock_walked : (gs : List Nogood) → Stock p gs w used → Grown p DeadEnds gs w' step.state.used
    stock_walked gs s = ended-so.later.carried.stock gs (subst (Stock p gs w) (sym b.used) s)

    room_walked : (n : ℕ) → used ≤ n → length w - KEPT_FREE ≤ n → step.state.used ≤ n
    room_walked n h g = ended-so.later.carried.room n (omega (arith, b.used)) g

    -- a walk that ended unspent
    asked_dead : (b' : ℕ) → step.walked ≡ Dead b' → w'' ≡ ended w' step.state.used step.state.limit.0
        → Asked p ceiling budget w used w'' (record {
          state = with_table step.state step.state.ends (end_used step.state.used
              step.state.limit.0);
          walked = step.walked;
          runs = runs;
        })
    asked_dead b' e t = record {
      correct = correct;
      stock = λ gs s.
          let settled : AllSettled p step.state.limit.0 = subst (Closes p st.budget step.state) e ended-so.closes in
          let new = grown_next p gs w' step.state.used [] (end_bounds step.state.limit.0) (ended w' step.state.used step.state.limit.0)
          (end_used step.state.used step.state.limit.0) (stock_walked gs s) (λ hs h. stock_ended p hs w' step.state.used
          step.state.limit.0 h (end_fits space held) (end_small small) settled.costs) in
          let same : concludes ceiling (answer_in p step.state runs step.walked) ≡ end_bounds step.state.limit.0 =
          ap (λ (k : Walked). concludes ceiling (answer_in p step.state runs k)) e ∙ ends_as runs step.state.found refl b' in
          rw (t, same) new;
      room = λ n h g. omega (arith, ended_room step.state.used step.state.limit.0, room_walked n h g);
      long = ap length t ∙ (ended_length w' step.state.used step.state.limit.0 ∙ ended-so.later.carried.long);
      untried = settled_idle;
      small = end_small small;
    }

    spent_nothing : (e : Bool) (m : ℕ) → concludes ceiling (answer_for p step.state.limit.0 step.state.best step.state.mark runs e
        (Spent m)) ≡ []
    unfolding concludes
    spent_nothing true m = refl
    spent_nothing false m = refl

    -- one that was spent
    asked_spent : (m : ℕ) → step.walked ≡ Spent m → w'' ≡ w'
        → Asked p ceiling budget w used w'' (record { state = step.state; walked = step.walked; runs = runs })
    asked_spent m e t = record {
      correct = correct;
      stock = λ gs s.
          let same : concludes ceiling (answer_in p step.state runs step.walked) ≡ [] =
          ap (λ (k : Walked). concludes ceiling (answer_in p step.state runs k)) e ∙ spent_nothing step.state.found m in
          rw (t, same) (stock_walked gs s);
      room = λ n h g. omega (arith, room_walked n h g);
      long = ap length t ∙ ended-so.later.carried.long;
      untried = settled_idle;
      small = end_small small;
    }

    -- the ask is answered
    asked : (r : State) → EndNoted w' w'' step.state r step.walked
        → Asked p ceiling budget w used w'' (record { state = r; walked = step.walked; runs = runs })
    asked r c = go step.walked refl c
      where
        go : (k : Walked) → step.walked ≡ k → EndNoted w' w'' step.state r k
            → Asked p ceiling budget w used w'' (record { state = r; walked = step.walked; runs = runs })
        go (Dead b') e d =
            subst (λ (x : State). Asked p ceiling budget w used w'' (record { state = x; walked = step.walked; runs = runs })) (sym d.0)
            (asked_dead b' e d.1)
        go (Spent m) e d =
            subst (λ (x : State). Asked p ceiling budget w used w'' (record { state = x; walked = step.walked; runs = runs })) (sym d.0)
            (asked_spent m e d.1)

-- what a reply is made from
pub ask_searched : (file : File) (us : List ℕ) (ask : Ask) (known : Bool) (used : ℕ) (w w' memo : List ℕ) (st : State) (step : Step) (shown : Bool)
    → AskDue file us ask known w used memo → WalkStart ask.ceiling ask.budget used st → SearchDone (problem file) w w' st step shown
    → (some_startless (problem file) ≡ true → step ≡ dead_at st 0) → AskSearched file us ask w used w' step shown
unfolding AskSearched
ask_searched file us ask known used w w' memo st step shown d b h idle = record { memo = memo; known = known; due = d; st = st; start = b; done = h; idle = idle }

module _ (file : File) (us : List ℕ) (ask : Ask) (used : ℕ) (w w' : List ℕ) (step : Step) (shown : Bool)
    (h : AskSearched file us ask w used w' step shown) where
  -- what the reply asks
  pub ask_replies : ReplyOfDue file step w'
  unfolding AskSearched
  ask_replies =
      let d = h.due in
      let e = h.done.finished in
      record {
        permits = best_permits (problem file) ask.ceiling ask.budget used w w' h.st step h.start e;
        room = end_fits (problem file) ask.ceiling ask.budget used w w' h.st step h.start e d.room d.held;
        small = end_small (problem file) ask.ceiling ask.budget used w w' h.st step h.start e d.ceiled;
      }

  -- the ask is answered
  pub ask_answered : (w'' : List ℕ) (r : Reply) → ReplyOf (problem file) step w' w'' r → Asked (problem file) ask.ceiling ask.budget w used w'' r
  unfolding AskSearched
  ask_answered w'' r m =
      let d = h.due in
      subst (λ (k : Walked). Asked (problem file) ask.ceiling ask.budget w used w'' (record { state = r.state; walked = k; runs = r.runs }))
      (sym m.walked_is)
      (asked (problem file) ask.ceiling ask.budget used w w' h.st step h.start h.done.finished (fair file.words.now file.filed.passed) d.ceiled
      d.room d.held r.runs m.runs_are h.idle w'' r.state m.concluded)

  -- and what is known of the free plant is true
  pub ask_shown : ShowsNone (problem file) shown
  unfolding AskSearched
  ask_shown = h.done.none

-- AN ASK WHOSE BUDGET IS AT LEAST THE NUMBER OF PLACES IS NEVER SPENT
pub asked_unspent : (p : Problem) → Fair p → (ceiling budget : ℕ) (w : List ℕ) (used : ℕ) (w' : List ℕ) (r : Reply)
    → Asked p ceiling budget w used w' r → prefixes p ≤ budget → (m : ℕ) → r.walked ≡ Spent m → ⊥
asked_unspent p fair ceiling budget w used w' r a h m e =
    never_spent p fair ceiling budget r.state r.runs m h
    (subst (λ (k : Walked). Correct p ceiling budget (answer_in p r.state r.runs k)) e a.correct)
