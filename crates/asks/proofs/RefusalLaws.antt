-- What turns a run away after its file: the asks, by their number, then word by word; then lent memory, in number order.
-- Assumes nothing.
use Prim.Native.Nat.{ℕ, ◌+◌, ◌*◌, ◌%◌, ◌^◌, ◌≤◌, ◌<◌}
use mathlib.Core.Path.{◌≡◌, refl, ◌∙◌}
use mathlib.Core.Bool.{Bool, true, false, ◌&&◌}
use mathlib.Core.List.{List}
use native.Mathlib.Nat.{one-mul, mul-le-mul}
use native.Mathlib.Omega.{arith}
use lib.Dec.{lit<, leb, eqb}
use lib.ListN.{length, get_or}
use lib.Pow.{shl_exact}
use mir.Syntax.{w64}
use mir.Val.{Fits}
use borrow.Author.Tests.{leb-true, le-leb, lt-leb, eqb-true, eq-eqb, ne_eqb}
use Rattle.sums.specs.Logic.{if}
use Rattle.sums.proofs.LogicLaws.{and_last_false}
use Rattle.model.specs.Words.{kind_of, value_of, kind_at, value_at}
use Rattle.model.specs.Verdict.{Verdict, accepted, refused, first_fault}
use Rattle.model.specs.Refusal.{ask_fault, asks_verdict, block_size, memory_verdict}
use Rattle.model.specs.Asks.{ceiling_at, budget_at}
use Rattle.model.proofs.ReadingLaws.{refused_not}
use Rattle.instance.specs.declared.file.File.{File}
use Rattle.instance.specs.File.{problem}
use Rattle.shape.specs.Shape as shape

-- ---- the words of asks

-- a ceiling, as the code finds it
pub ceiling_is : (asks : List ℕ) (k v : ℕ) → v ≡ value_at asks (2 * k) → v ≡ ceiling_at asks k
unfolding ceiling_at
ceiling_is asks k v e = e

-- a budget
pub budget_is : (asks : List ℕ) (k v : ℕ) → v ≡ value_at asks (2 * k + 1) → v ≡ budget_at asks k
unfolding budget_at
budget_is asks k v e = e

module _ (asks : List ℕ) (q kind : ℕ) (is : kind ≡ kind_of (get_or asks q 0)) where
  -- a word of another kind
  pub ask_kind : (kind ≡ 11 + q % 2 → ⊥) → 9 ≡ ask_fault asks q
  unfolding ask_fault kind_at
  ask_kind h = rw (← is, ne_eqb kind (11 + q % 2) h)

  module _ (e : kind ≡ 11 + q % 2) where
    -- a ceiling
    pub ask_ceiling : (q % 2 ≡ 1 → ⊥) → 0 ≡ ask_fault asks q
    unfolding ask_fault kind_at
    ask_ceiling h = rw (← is, eq-eqb kind (11 + q % 2) e, ne_eqb (q % 2) 1 h)

    module _ (b : q % 2 ≡ 1) (value : ℕ) (v : value ≡ value_of (get_or asks q 0)) where
      -- a budget of some tries
      pub ask_budget : (value ≡ 0 → ⊥) → 0 ≡ ask_fault asks q
      unfolding ask_fault kind_at value_at
      ask_budget h = rw (← is, eq-eqb kind (11 + q % 2) e, eq-eqb (q % 2) 1 b, ← v, ne_eqb value 0 h)

      -- of none
      pub ask_no_try : value ≡ 0 → 10 ≡ ask_fault asks q
      unfolding ask_fault kind_at value_at
      ask_no_try h = rw (← is, eq-eqb kind (11 + q % 2) e, eq-eqb (q % 2) 1 b, ← v, eq-eqb value 0 h)

module _ (asks : List ℕ) where
  -- no ask
  pub asks_none : length asks < 1 → refused 8 0 ≡ asks_verdict asks
  unfolding asks_verdict
  asks_none h = rw (lt-leb 1 (length asks) h)

  -- half an ask
  pub asks_odd : (length asks % 2 ≡ 0 → ⊥) → refused 8 0 ≡ asks_verdict asks
  unfolding asks_verdict
  asks_odd h = rw (ne_eqb (length asks % 2) 0 h, and_last_false (leb 1 (length asks)))

  -- too many
  pub asks_many : 64 < length asks → refused 8 0 ≡ asks_verdict asks
  unfolding asks_verdict
  asks_many h = rw (lt-leb (length asks) 64 h, and_last_false (leb 1 (length asks) && eqb (length asks % 2) 0))

  -- the words decide
  pub asks_each : (m : Verdict) → 1 ≤ length asks → length asks % 2 ≡ 0 → length asks ≤ 64 → m ≡ first_fault (ask_fault asks) 0 (length asks)
      → m ≡ asks_verdict asks
  unfolding asks_verdict
  asks_each m h e l is = is ∙ rw (le-leb 1 (length asks) h, eq-eqb (length asks % 2) 0 e, le-leb (length asks) 64 l)

  -- 1 to 32 asks
  pub asks_passed : asks_verdict asks ≡ accepted → (1 ≤ length asks) × (length asks % 2 ≡ 0) × (length asks ≤ 64)
  unfolding asks_verdict
  asks_passed e = go (leb 1 (length asks)) (eqb (length asks % 2) 0) (leb (length asks) 64) refl refl refl e
    where
      go : (x y z : Bool) → leb 1 (length asks) ≡ x → eqb (length asks % 2) 0 ≡ y → leb (length asks) 64 ≡ z
          → if (x && y && z) (first_fault (ask_fault asks) 0 (length asks)) (refused 8 0) ≡ accepted
          → (1 ≤ length asks) × (length asks % 2 ≡ 0) × (length asks ≤ 64)
      go true true true a b c h = (leb-true 1 (length asks) a, eqb-true (length asks % 2) 0 b, leb-true (length asks) 64 c)
      go true true false a b c h = absurd (refused_not _ _ h)
      go true false z a b c h = absurd (refused_not _ _ h)
      go false y z a b c h = absurd (refused_not _ _ h)

-- ---- lent memory

-- 2 ^ u is a word of 64 bits
pub scratch_words : (u : ℕ) → u ≤ 16 → 1 * 2 ^ u % 18446744073709551616 ≡ 2 ^ u
scratch_words u h = shl_exact {a = 1} 1 u 64 (lit< tt) (omega arith) ∙ one-mul (2 ^ u)

-- so is the number of the words of all blocks
pub blocks_fit : (asks size : ℕ) → asks ≤ 32 → size ≤ 86 → Fits w64 (asks * size)
blocks_fit asks size h g = let m = mul-le-mul h g in omega arith

module _ (file : File) (asks table answers scratch : ℕ) where
  -- the table is too short
  pub table_short : table < 64 → refused 13 0 ≡ memory_verdict (problem file) asks table answers scratch
  unfolding memory_verdict
  table_short h = rw (lt-leb 64 table h)

  -- or too long
  pub table_long : 16384 < table → refused 13 0 ≡ memory_verdict (problem file) asks table answers scratch
  unfolding memory_verdict
  table_long h = rw (lt-leb table 16384 h, and_last_false (leb 64 table))

  module _ (low : 64 ≤ table) (high : table ≤ 16384) (size : ℕ) (is : size ≡ shape.block_size file.layout.units file.layout.weeks) where
    sized : asks * size ≡ asks * block_size (problem file)
    unfolding block_size
    sized = rw (file.filed.units_are, file.filed.weeks_are, is)

    -- the answers have too few words
    pub answers_short : answers < asks * size → refused 14 0 ≡ memory_verdict (problem file) asks table answers scratch
    unfolding memory_verdict
    answers_short h = rw (le-leb 64 table low, le-leb table 16384 high, lt-leb (asks * block_size (problem file)) answers (rw (← sized) h))

    module _ (some : asks * size ≤ answers) (wanted : ℕ) (two : wanted ≡ 2 ^ file.layout.units) where
      -- the scratch has
      pub scratch_short : scratch < wanted → refused 15 0 ≡ memory_verdict (problem file) asks table answers scratch
      unfolding memory_verdict
      scratch_short h =
          rw (
            le-leb 64 table low,
            le-leb table 16384 high,
            le-leb (asks * block_size (problem file)) answers (rw (← sized) some),
            file.filed.units_are,
            lt-leb (2 ^ file.layout.units) scratch (rw (← two) h),
          )

      -- all is enough
      pub memory_enough : wanted ≤ scratch → accepted ≡ memory_verdict (problem file) asks table answers scratch
      unfolding memory_verdict
      memory_enough h =
          rw (
            le-leb 64 table low,
            le-leb table 16384 high,
            le-leb (asks * block_size (problem file)) answers (rw (← sized) some),
            file.filed.units_are,
            le-leb (2 ^ file.layout.units) scratch (rw (← two) h),
          )
