-- What the functions of a run ask and give, one after the other.
-- Assumes nothing.
use Prim.Native.Nat.{ℕ, ◌+◌, ◌/◌, ◌≤◌, ◌<◌}
use mathlib.Core.Path.{◌≡◌, refl, ◌∙◌, subst}
use mathlib.Core.Bool.{Bool}
use mathlib.Core.List.{List}
use native.Mathlib.Omega.{arith}
use lib.ListN.{length, replicate}
use Rattle.std.specs.Prelude.{Some, None}
use Rattle.model.specs.Nogood.{MOST_LIMIT}
use Rattle.model.specs.Asks.{ask_count, ceiling_at, budget_at, Answered}
use Rattle.instance.specs.declared.file.File.{File}
use Rattle.instance.specs.File.{problem}
use Rattle.memo.specs.Memo.{Right, Others}
use Rattle.memo.proofs.EntryLaws.{right_empty}
use Rattle.tables.specs.Tables.{price_in, First, Priced}
use Rattle.relaxation.specs.Relaxed as relaxed
use Rattle.relaxation.proofs.ValueLaws.{recalls_empty, recalls_others}
use Rattle.prices.proofs.RangeLaws.{priced_first}
use Rattle.farkas.specs.Sums.{ShowsNone}
use Rattle.search.specs.declared.Reply.{Reply}
use Rattle.walk.specs.Walk.{Walking}
use Rattle.search.specs.Ask.{AskDue, Asked}
use Rattle.asks.specs.Admitted.{Admitted}
use Rattle.planner.specs.declared.Carry.{Carry}
use Rattle.planner.specs.Carry.{SaysNothing, SaysNone, with_used}
use Rattle.planner.specs.Due.{ReplyDue, OpenDue, Told, PutDue, TurnPut, StartDue, RunDue}
use Rattle.planner.proofs.CarryLaws.{replied_none, replied_again, replied_solved}
use Rattle.planner.proofs.GoingLaws.{ask_placed, transposed, going_start, going_ready, going_answered, admitted_still}

-- ---- one ask

module _ (file : File) (us asks : List ℕ) (k : ℕ) (m : Carry) (shown : Bool) (w memo : List ℕ) (d : ReplyDue file us asks k m shown w memo) where
  -- its number is small
  pub reply_few : k < 32
  unfolding ReplyDue
  reply_few = d.few

  module _ (ceiling : ℕ) (e : ceiling ≡ ceiling_at asks k) where
    -- below the least cost: none
    pub told_none : (r : Reply) → ceiling < m.least.0 → SaysNone m.used r → Told file us asks k m w w memo r shown
    unfolding ReplyDue Told
    told_none r less none = record {
      replied = replied_none (problem file) (ceiling_at asks k) (budget_at asks k) m w d.ready r (omega arith) none;
      recalls = d.walking.recalls;
      none = d.none;
    }

    -- from there on: the plan again
    pub told_again : (q r : Reply) → m.least.0 ≤ ceiling → m.plan ≡ Some q → r ≡ with_used q m.used → Told file us asks k m w w memo r shown
    unfolding ReplyDue Told
    told_again q r least known is = record {
      replied = replied_again (problem file) (ceiling_at asks k) (budget_at asks k) m w d.ready r q (omega arith) known is;
      recalls = d.walking.recalls;
      none = d.none;
    }

    -- else a search
    pub told_open : m.least.0 ≤ ceiling → m.plan ≡ None → OpenDue file us asks k m shown w memo
    unfolding ReplyDue OpenDue
    told_open least unknown = record { due = d; least = omega arith; unknown = unknown }

module _ (file : File) (us asks : List ℕ) (k : ℕ) (m : Carry) (shown : Bool) (w memo : List ℕ) (d : OpenDue file us asks k m shown w memo) where
  -- its number is small
  pub open_few : k < 32
  unfolding OpenDue
  open_few = d.due.few

  -- what the search asks
  pub open_asks : (ceiling budget : ℕ) → ceiling < MOST_LIMIT → AskDue file us (record { ceiling = ceiling; budget = budget }) shown w m.used memo
  unfolding OpenDue
  open_asks ceiling budget small = record {
    walking = d.due.walking;
    ceiled = small;
    none = d.due.none;
    room = d.due.ready.room;
    held = d.due.ready.held;
  }

  -- what it tells
  pub open_told : (ceiling budget : ℕ) (w' memo' : List ℕ) (r : Reply) (shown' : Bool) → ceiling ≡ ceiling_at asks k → budget ≡ budget_at asks k
      → Asked (problem file) ceiling budget w m.used w' r → ShowsNone (problem file) shown' → relaxed.MemoTrue (problem file) (price_in us) memo'
      → Told file us asks k m w w' memo' r shown'
  unfolding OpenDue Told
  open_told ceiling budget w' memo' r shown' e b asked none recalls = record {
    replied = replied_solved (problem file) (ceiling_at asks k) (budget_at asks k) m w d.due.ready r w' d.least d.unknown
        (subst (λ (n : ℕ). Asked (problem file) (ceiling_at asks k) n w m.used w' r) b
        (subst (λ (n : ℕ). Asked (problem file) n budget w m.used w' r) e asked));
    recalls = recalls;
    none = none;
  }

-- ---- a run

module _ (file : File) (us asks lent table₀ answers table : List ℕ) (m : Carry) (shown : Bool) (k : ℕ) (memo : List ℕ)
    (h : RunDue file us asks lent table₀ answers table m shown k memo) where
  -- the next ask
  module _ (n : ℕ) (e : n ≡ length asks / 2) (less : k < n) where
    few : k < 32
    unfolding RunDue ask_count
    few = omega (arith, h.admitted.few)

    pub runs_reply : ReplyDue file us asks k m shown table memo
    unfolding RunDue ReplyDue
    runs_reply = record {
      walking = h.walking;
      few = few;
      ready = going_ready (problem file) asks lent answers table m k h.going few (omega (arith, h.admitted.long, h.long));
      none = h.none;
    }

    -- it was told
    module _ (table' memo' : List ℕ) (r : Reply) (shown' : Bool) (told : Told file us asks k m table table' memo' r shown') where
      -- its block is put
      pub runs_put : PutDue file.layout asks k r (length answers)
      unfolding RunDue Told ask_count
      runs_put =
          let ok = admitted_still file asks (length table₀) (length lent) (length table) (length answers) h.admitted h.long h.room in
          record {
            few = few;
            placed = ask_placed file asks k (length table) (length answers) ok (omega arith);
            small = told.replied.small;
          }

      -- and the run is one ask further
      pub runs_next : (answers' : List ℕ) (m' : Carry) → TurnPut file.layout asks k m r answers answers' m' → length answers' ≡ length answers
          → RunDue file us asks lent table₀ answers' table' m' shown' (k + 1) memo'
      unfolding RunDue Told
      runs_next answers' m' put ea = record {
        admitted = h.admitted;
        walking = record { dual = h.walking.dual; recalls = told.recalls };
        going = (transposed file asks k answers answers' table table' m m' r told.replied put.put put.kept).next lent h.going;
        long = told.replied.long ∙ h.long;
        room = ea ∙ h.room;
        none = told.none;
      }

  -- all of them
  pub runs_ended : (n : ℕ) → n ≡ length asks / 2 → k ≤ n → n ≤ k → Answered (problem file) asks lent answers table
  unfolding RunDue
  runs_ended n e a b = going_answered (problem file) asks lent answers table m k n h.going a b e

-- it may begin
pub starts : (file : File) (us asks : List ℕ) (shown : Bool) (answers table memo : List ℕ) → Admitted file asks (length table) (length answers)
    → table ≡ replicate (length table) 0 → Walking file us memo → ShowsNone (problem file) shown → StartDue file us asks shown answers table memo
unfolding StartDue
starts file us asks shown answers table memo ok none walking known = record { admitted = ok; emptied = none; walking = walking; none = known }

-- before the first ask, with an emptied table
pub runs_start : (file : File) (us asks answers table : List ℕ) (m : Carry) (shown : Bool) (memo : List ℕ)
    → StartDue file us asks shown answers table memo → SaysNothing m → RunDue file us asks answers table answers table m shown 0 memo
unfolding StartDue RunDue
runs_start file us asks answers table m shown memo d says = record {
  admitted = d.admitted;
  walking = d.walking;
  going = going_start (problem file) asks answers table m (length table) d.emptied says;
  long = refl;
  room = refl;
  none = d.none;
}

-- ---- the table of a walk

-- a table without prices serves a run where there is no schedule
pub bare_priced : (file : File) (us : List ℕ) → First (problem file) (problem file).units us → Priced (problem file) us
bare_priced file us h = (priced_first file us h).priced

module _ (file : File) (memo : List ℕ) (none : memo ≡ replicate (length memo) 0) where
  -- an emptied memo is right
  pub emptied_right : Right (problem file) memo
  emptied_right = right_empty (problem file) memo (length memo) none

  -- and recalls at any prices
  pub bare_recalls : (us : List ℕ) → relaxed.MemoTrue (problem file) (price_in us) memo
  bare_recalls us = recalls_empty (problem file) (price_in us) memo (length memo) none

  -- also after least costs were kept in it
  pub emptied_recalls : (us memo' : List ℕ) → Right (problem file) memo' → Others memo memo' → relaxed.MemoTrue (problem file) (price_in us) memo'
  emptied_recalls us memo' right others =
      recalls_others (problem file) (price_in us) memo memo' (recalls_empty (problem file) (price_in us) memo (length memo) none) right others
