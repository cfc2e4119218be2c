-- What the functions of a run ask and give, as one fact each: a search for a proof enters every record it meets, and leaves these alone.
-- Assumes nothing.
use Rattle.std.specs.Prelude.{ℕ, ◌≤◌, ◌<◌, ◌≡◌, Bool, None, List, length, replicate}
use Rattle.model.specs.declared.Layout.{Layout}
use Rattle.model.specs.Nogood.{MOST_LIMIT}
use Rattle.model.specs.Asks.{ceiling_at, budget_at}
use Rattle.instance.specs.declared.file.File.{File}
use Rattle.instance.specs.File.{problem}
use Rattle.tables.specs.Tables.{price_in}
use Rattle.relaxation.specs.Relaxed as relaxed
use Rattle.farkas.specs.Sums.{ShowsNone}
use Rattle.search.specs.declared.Reply.{Reply}
use Rattle.walk.specs.Walk.{Walking}
use Rattle.asks.specs.Admitted.{Admitted}
use Rattle.block.specs.Block.{Placed, put_at}
use Rattle.planner.specs.declared.Carry.{Carry}
use Rattle.planner.specs.Carry.{AskReady, Replied, Remembered}
use Rattle.planner.specs.Going.{Going}

-- ---- one ask

-- ask k is to be told, where `shown` says whether it is known that there is no schedule
pub record ReplyNeeds (file : File) (us asks : List ℕ) (k : ℕ) (m : Carry) (shown : Bool) (w memo : List ℕ) : Type 0 where
  pub walking : Walking file us memo
  pub few : k < 32
  pub ready : AskReady (problem file) w m
  pub none : ShowsNone (problem file) shown

unfoldable pub ReplyDue : (file : File) → (us asks : List ℕ) → ℕ → Carry → Bool → (w memo : List ℕ) → Type 0
ReplyDue file us asks k m shown w memo = ReplyNeeds file us asks k m shown w memo

-- and nothing that came before settles it
pub record OpenNeeds (file : File) (us asks : List ℕ) (k : ℕ) (m : Carry) (shown : Bool) (w memo : List ℕ) : Type 0 where
  pub due : ReplyNeeds file us asks k m shown w memo
  pub least : m.least.0 ≤ ceiling_at asks k
  pub unknown : m.plan ≡ None

unfoldable pub OpenDue : (file : File) → (us asks : List ℕ) → ℕ → Carry → Bool → (w memo : List ℕ) → Type 0
OpenDue file us asks k m shown w memo = OpenNeeds file us asks k m shown w memo

-- it was told
pub record ReplyTold (file : File) (us asks : List ℕ) (k : ℕ) (m : Carry) (w w' memo : List ℕ) (r : Reply) (shown : Bool) : Type 0 where
  pub replied : Replied (problem file) (ceiling_at asks k) (budget_at asks k) m w w' r
  pub recalls : relaxed.MemoTrue (problem file) (price_in us) memo
  pub none : ShowsNone (problem file) shown

unfoldable pub Told : (file : File) → (us asks : List ℕ) → ℕ → Carry → (w w' memo : List ℕ) → Reply → Bool → Type 0
Told file us asks k m w w' memo r shown = ReplyTold file us asks k m w w' memo r shown

-- its block is to be put
pub record PutDue (l : Layout) (asks : List ℕ) (k : ℕ) (told : Reply) (room : ℕ) : Type 0 where
  pub few : k < 32
  pub placed : Placed l k room
  pub small : told.state.limit.0 ≤ MOST_LIMIT

-- it was put, and is remembered
pub record TurnPut (l : Layout) (asks : List ℕ) (k : ℕ) (m : Carry) (told : Reply) (answers answers' : List ℕ) (m' : Carry) : Type 0 where
  pub put : answers' ≡ put_at l k told answers
  pub kept : Remembered m (ceiling_at asks k) told m'

-- ---- a run

-- a run may begin, with an emptied table
pub record Starting (file : File) (us asks : List ℕ) (shown : Bool) (answers table memo : List ℕ) : Type 0 where
  pub admitted : Admitted file asks (length table) (length answers)
  pub emptied : table ≡ replicate (length table) 0
  pub walking : Walking file us memo
  pub none : ShowsNone (problem file) shown

unfoldable pub StartDue : (file : File) → (us asks : List ℕ) → Bool → (answers table memo : List ℕ) → Type 0
StartDue file us asks shown answers table memo = Starting file us asks shown answers table memo

-- a run with answers and a table as they were lent, after its first k asks
pub record Running (file : File) (us asks lent table₀ answers table : List ℕ) (m : Carry) (shown : Bool) (k : ℕ) (memo : List ℕ) : Type 0 where
  pub admitted : Admitted file asks (length table₀) (length lent)
  pub walking : Walking file us memo
  pub going : Going (problem file) asks lent answers table m k
  pub long : length table ≡ length table₀
  pub room : length answers ≡ length lent
  pub none : ShowsNone (problem file) shown

unfoldable pub RunDue : (file : File) → (us asks lent table₀ answers table : List ℕ) → Carry → Bool → ℕ → (memo : List ℕ) → Type 0
RunDue file us asks lent table₀ answers table m shown k memo = Running file us asks lent table₀ answers table m shown k memo
