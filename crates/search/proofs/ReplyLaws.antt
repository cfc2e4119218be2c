-- What a walk that has ended says of all schedules is the answer that is right for its ceiling and budget.
-- Assumes nothing.
use Prim.Native.Nat.{ℕ, suc, ◌+◌, ◌-◌, ◌*◌, ◌≤◌, ◌<◌}
use mathlib.Core.Path.{◌≡◌, refl, sym, ◌∙◌, ap, subst}
use mathlib.Core.Bool.{Bool, true, false}
use mathlib.Core.List.{List, [], ◌∷◌}
use mathlib.Core.Logic.{inl, inr}
use native.Mathlib.Nat.{zero-add}
use native.Mathlib.Omega.{arith}
use lib.ListN.{length, get_or}
use lib.Dec.{ltb}
use Rattle.sums.specs.Sum.{sum_to}
use Rattle.sums.specs.Range.{list_to}
use Rattle.sums.specs.Table.{entry}
use Rattle.sums.proofs.LogicLaws.{and_of}
use Rattle.sums.proofs.RangeLaws.{list_length, list_at}
use Rattle.sums.proofs.SumLaws.{sum_same}
use Rattle.model.specs.Problem.{Problem, Fair}
use Rattle.model.specs.Domain.{permitted, starts_below}
use Rattle.model.specs.Schedule.{Schedule, Sound, cost, schedule_of}
use Rattle.model.specs.Order.{Same, Alike, Lower, Earlier}
use Rattle.model.specs.Prefix.{starts_from, ValidPrefix, tree_size, passed_at, passed, prefixes}
use Rattle.model.specs.Best.{Region, Everywhere, NoneAllowed, Before as Ahead}
use Rattle.model.specs.Answer.{Found, Marked, Correct}
use Rattle.model.proofs.ScheduleLaws.{sound_agree, cost_agree}
use Rattle.model.proofs.OrderLaws.{lower_agree, ahead_lower, lower_ahead}
use Rattle.model.proofs.PrefixLaws.{rank_passed}
use Rattle.model.proofs.AnswerLaws.{marked_below}
use Rattle.blame.specs.Placed.{plan_of}
use Rattle.bound.specs.Tests.{RunsOf}
use Rattle.state.specs.declared.State.{State}
use Rattle.state.specs.declared.Walked.{Walked}
use Rattle.state.specs.declared.Walked.TheVariants.{Dead, Spent}
use Rattle.walk.specs.Walk.{IsIncumbent, Incumbent, Halted, Closes}
use Rattle.search.specs.Ask.{answer_for, answer_in}

-- ---- a schedule as an answer has it

-- lower than one is lower than another that is the same
lower_to : {lower : ℕ → ℕ → Bool} {n : ℕ} {f g h : ℕ → ℕ} → Same n g h → Lower lower n f g → Lower lower n f h
lower_to {lower = lower} {f = f} same l = let d = l.below in record {
  at = l.at;
  below = l.below;
  same = λ k e. l.same k e ∙ same k (omega arith);
  less = subst (λ (v : ℕ). lower (f l.at) v ≡ true) (same l.at l.below) l.less;
}

-- earlier than a schedule is earlier than one with the same starts and runs
earlier_to : (p : Problem) (q s t : Schedule) → Alike p s t → Earlier p q s → Earlier p q t
earlier_to p q s t alike (inl l) = inl (lower_to alike.0 l)
earlier_to p q s t alike (inr (same, l)) = inr ((λ k h. same k h ∙ alike.0 k h), lower_to alike.1 l)

module _ (p : Problem) (fair : Fair p) (ceiling limit : ℕ) (best runs : List ℕ) (leads : IsIncumbent p ceiling best limit) (are : RunsOf p
    (entry best) runs) where
  -- the schedule of an answer's lists
  abbrev told : Schedule
  told = schedule_of (list_to p.units (entry best)) (list_to p.weeks (entry runs))

  told_alike : Alike p told (plan_of p (entry best))
  unfolding entry
  told_alike = ((λ k h. list_at p.units (entry best) k h), (λ t h. list_at p.weeks (entry runs) t h ∙ are.each t h))

  told_sound : Sound p told
  told_sound = sound_agree p (plan_of p (entry best)) told told_alike fair leads.sound

  told_cost : cost p told ≡ limit
  told_cost = cost_agree p (plan_of p (entry best)) told told_alike leads.sound.schedule ∙ leads.costs

  -- it is the best of a region in which nothing is below the limit
  pub told_found : (In : Region) → In told → ((q : Schedule) → Sound p q → In q → limit ≤ cost p q)
      → Found p ceiling In limit (list_to p.units (entry best)) (list_to p.weeks (entry runs))
  told_found In inside least = record {
    starts = list_length p.units (entry best);
    runs = list_length p.weeks (entry runs);
    costs = told_cost;
    best = record {
      allowed = record { sound = told_sound; cheap = omega (arith, told_cost, leads.allowed) };
      inside = inside;
      least = λ q sound h. omega (arith, told_cost, least q sound h);
      first = λ q sound h earlier. omega (arith, told_cost, leads.first q sound (earlier_to p q told (plan_of p (entry best)) told_alike earlier));
    };
  }

-- ---- the mark

-- permitted starts of the units from i on
starts_from_lem : (p : Problem) (i : ℕ) (ss : List ℕ) → ((k : ℕ) → k < length ss → permitted p (i + k) (get_or ss k 0) ≡ true) → starts_from p i ss ≡ true
unfolding starts_from
starts_from_lem p i [] h = refl
starts_from_lem p i (s ∷ ss) h =
    and_of (permitted p i s) (starts_from p (i + 1) ss)
    (subst (λ (n : ℕ). permitted p n s ≡ true) (let e : i + 0 ≡ i = omega arith in e) (h 0 (omega arith)))
    (starts_from_lem p (i + 1) ss (λ k l. subst (λ (n : ℕ). permitted p n (get_or ss k 0) ≡ true) (let e : i + suc k ≡ i + 1 + k = omega arith in e) (h
    (suc k) (omega arith))))

module _ (p : Problem) (fair : Fair p) (budget : ℕ) (st : State) (m : ℕ) (h : Halted p budget st m) where
  -- the mark's starts
  abbrev marks : List ℕ
  marks = list_to m (entry st.mark)

  marks_long : length marks ≡ m
  marks_long = list_length m (entry st.mark)

  marks_at : Same m (λ i. get_or marks i 0) (entry st.mark)
  marks_at k l = list_at m (entry st.mark) k l

  marks_valid : ValidPrefix p marks
  marks_valid = record {
    some = omega (arith, marks_long, h.some);
    within = omega (arith, marks_long, h.within);
    permits = starts_from_lem p 0 marks (λ k l.
        let d : k < m = omega (arith, marks_long) in
        subst (λ (n : ℕ). permitted p n (get_or marks k 0) ≡ true) (sym (zero-add k)) (ap (permitted p k) (marks_at k d) ∙ h.permits k d));
  }

  marks_passed : passed p (λ i. get_or marks i 0) (length marks) ≡ passed p (entry st.mark) m
  unfolding passed passed_at
  marks_passed =
      ap (λ (n : ℕ). sum_to n (passed_at p (λ i. get_or marks i 0))) marks_long
      ∙ sum_same m (passed_at p (λ i. get_or marks i 0)) (passed_at p (entry st.mark)) (λ i l. ap (λ (v : ℕ). starts_below p i v * tree_size p
      (p.units - suc i) + 1) (marks_at i l))

  -- it is a place of rank at least the budget
  pub halted_marked : Marked p budget (list_to m (entry st.mark))
  halted_marked = record { prefix = marks_valid; late = omega (arith, rank_passed p fair marks marks_valid, marks_passed, h.late) }

  -- a schedule before it is lower
  ahead_of : (q : Schedule) → Ahead p marks q → Lower ltb m q.start (entry st.mark)
  ahead_of q a =
      subst (λ (n : ℕ). Lower ltb n q.start (entry st.mark)) marks_long
      (lower_to (λ k l. marks_at k (omega (arith, marks_long))) (ahead_lower p q marks marks_valid.within a))

  -- and a lower one is before it
  to_ahead : (q : Schedule) → Lower ltb m q.start (entry st.mark) → Ahead p marks q
  to_ahead q l =
      lower_ahead p q marks marks_valid.within
      (subst (λ (n : ℕ). Lower ltb n q.start (λ i. get_or marks i 0)) (sym marks_long) (lower_to (λ k d. sym (marks_at k d)) l))

  -- nothing before it is below the limit
  pub halted_least : (q : Schedule) → Sound p q → Ahead p (list_to m (entry st.mark)) q → st.limit.0 ≤ cost p q
  halted_least q sound a = h.settled.costs q sound (ahead_of q a)

-- ---- the four answers

module _ (p : Problem) (fair : Fair p) (ceiling budget : ℕ) (st : State) (runs : List ℕ) (inc : Incumbent p ceiling st)
    (are : st.found ≡ true → RunsOf p (entry st.best) runs) where
  -- nothing is at or below the ceiling where nothing is below the limit
  none_below : st.found ≡ false → (In : Region) → ((q : Schedule) → Sound p q → In q → st.limit.0 ≤ cost p q) → NoneAllowed p ceiling In
  none_below e In least q inside allowed = omega (arith, inc.none e, least q allowed.sound inside, allowed.cheap)

  before_mark : (m : ℕ) → Halted p budget st m → st.found ≡ true
      → Ahead p (list_to m (entry st.mark)) (schedule_of (list_to p.units (entry st.best)) (list_to p.weeks (entry runs)))
  before_mark m h e =
      to_ahead p fair budget st m h (told p fair ceiling st.limit.0 st.best runs (inc.plan e) (are e))
      (lower_agree ltb (λ k d. (told_alike p fair ceiling st.limit.0 st.best runs (inc.plan e) (are e)).0 k (omega (arith, h.within)))
      (h.past e))

  -- the answer is right
  pub answer_correct : (w : Walked) → Closes p budget st w → Correct p ceiling budget (answer_in p st runs w)
  answer_correct w c = go st.found refl w c
    where
      go : (f : Bool) → st.found ≡ f → (w : Walked) → Closes p budget st w
          → Correct p ceiling budget (answer_for p st.limit.0 st.best st.mark runs f w)
      go true e (Dead b) c = told_found p fair ceiling st.limit.0 st.best runs (inc.plan e) (are e) Everywhere tt
          (λ q sound h. c.costs q sound)
      go false e (Dead b) c = none_below e Everywhere (λ q sound h. c.costs q sound)
      go true e (Spent m) c = (
        halted_marked p fair budget st m c,
        told_found p fair ceiling st.limit.0 st.best runs (inc.plan e) (are e) (Ahead p (list_to m (entry st.mark))) (before_mark m c e)
            (halted_least p fair budget st m c),
      )
      go false e (Spent m) c = (
        halted_marked p fair budget st m c,
        none_below e (Ahead p (list_to m (entry st.mark)))
            (halted_least p fair budget st m c),
      )

-- AN ASK WHOSE BUDGET IS AT LEAST THE NUMBER OF PLACES IS NEVER SPENT: no right answer has a mark then
pub never_spent : (p : Problem) → Fair p → (ceiling budget : ℕ) (st : State) (runs : List ℕ) (m : ℕ) → prefixes p ≤ budget
    → Correct p ceiling budget (answer_in p st runs (Spent m)) → ⊥
never_spent p fair ceiling budget st runs m h c = go st.found c
  where
    go : (f : Bool) → Correct p ceiling budget (answer_for p st.limit.0 st.best st.mark runs f (Spent m)) → ⊥
    go true c = omega (arith, marked_below p fair budget (list_to m (entry st.mark)) c.0)
    go false c = omega (arith, marked_below p fair budget (list_to m (entry st.mark)) c.0)
