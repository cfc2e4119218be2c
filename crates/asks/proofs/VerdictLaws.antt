-- The verdict on a run of any words: the file, then the asks, then lent memory; and what a run has that was not turned away.
-- Assumes nothing.
use Prim.Native.Nat.{ℕ, ◌*◌, ◌/◌, ◌<◌, ◌≤◌}
use mathlib.Core.Path.{◌≡◌, refl, sym, ◌∙◌}
use mathlib.Core.List.{List}
use mathlib.Core.Logic.{⊎_elim}
use native.Mathlib.Omega.{arith}
use lib.ListN.{length}
use Rattle.sums.proofs.LogicLaws.{lt_or_ge}
use Rattle.model.specs.Words.{problem_of}
use Rattle.model.specs.Verdict as model
use Rattle.model.specs.Verdict.{accepted, refused, and_then}
use Rattle.model.specs.Reading.{read_of}
use Rattle.model.specs.Refusal.{asks_verdict, memory_verdict, run_verdict}
use Rattle.model.specs.Asks.{ask_count}
use Rattle.model.proofs.ReadingLaws.{refused_not}
use Rattle.model.proofs.VerdictLaws.{first_passed, second_passed}
use Rattle.instance.specs.declared.file.File.{File}
use Rattle.instance.specs.File.{problem}
use Rattle.shape.specs.Shape.{block_size}
use Rattle.asks.specs.Admitted.{Admitted}
use Rattle.asks.proofs.RefusalLaws.{asks_passed, table_short, table_long, answers_short}

-- ---- the tests in their order

module _ (ws asks : List ℕ) (table answers scratch : ℕ) where
  -- the file's refusal
  pub run_file : (number place : ℕ) → refused number place ≡ read_of ws → refused number place ≡ run_verdict ws asks table answers scratch
  unfolding run_verdict and_then
  run_file number place q = rw (← q)

  -- the asks' refusal, where the file is accepted
  pub run_asks : (number place : ℕ) → accepted ≡ read_of ws → refused number place ≡ asks_verdict asks
      → refused number place ≡ run_verdict ws asks table answers scratch
  unfolding run_verdict and_then
  run_asks number place file q = rw (← file, ← q)

-- at most 32 asks
pub run_few : (asks : List ℕ) → accepted ≡ asks_verdict asks → length asks / 2 ≤ 32
run_few asks each = let few = (asks_passed asks (sym each)).2 in omega arith

-- lent memory's verdict, where file and asks are accepted
pub run_memory : (file : File) (asks : List ℕ) (table answers scratch : ℕ) (m : model.Verdict) → accepted ≡ asks_verdict asks
    → m ≡ memory_verdict (problem file) (length asks / 2) table answers scratch → m ≡ run_verdict file.words.now asks table answers scratch
unfolding run_verdict and_then
run_memory file asks table answers scratch m each is = rw (file.filed.passed, ← each) is

-- ---- what has passed them

module _ (file : File) (asks : List ℕ) (table answers scratch : ℕ) (passed : accepted ≡ run_verdict file.words.now asks table answers scratch) where
  rest : model.Verdict
  unfolding and_then
  rest = and_then (asks_verdict asks) (memory_verdict (problem file) (length asks / 2) table answers scratch)

  all_passed : and_then (read_of file.words.now) rest ≡ accepted
  unfolding rest run_verdict
  all_passed = sym passed

  rest_passed : rest ≡ accepted
  rest_passed = second_passed (read_of file.words.now) rest all_passed

  count : ℕ
  count = length asks / 2

  size : ℕ
  size = block_size file.layout.units file.layout.weeks

  memory_passed : memory_verdict (problem file) count table answers scratch ≡ accepted
  unfolding rest count
  memory_passed = second_passed (asks_verdict asks) (memory_verdict (problem file) (length asks / 2) table answers scratch) rest_passed

  asks_few : count ≤ 32
  unfolding rest count
  asks_few =
      let few = (asks_passed asks (first_passed (asks_verdict asks) (memory_verdict (problem file) (length asks / 2) table answers scratch) rest_passed)).2 in
      omega arith

  table_least : 64 ≤ table
  table_least =
      ⊎_elim (λ (h : table < 64). absurd (refused_not _ _ (table_short file count table answers scratch h ∙ memory_passed)))
      (λ (h : 64 ≤ table). h) (lt_or_ge table 64)

  table_most : table ≤ 16384
  table_most =
      ⊎_elim (λ (h : 16384 < table). absurd (refused_not _ _ (table_long file count table answers scratch h ∙ memory_passed)))
      (λ (h : table ≤ 16384). h) (lt_or_ge 16384 table)

  room : count * size ≤ answers
  unfolding size
  room =
      ⊎_elim
      (λ (h : answers < count * block_size file.layout.units file.layout.weeks).
      absurd (refused_not _ _ (answers_short file count table answers scratch table_least table_most (block_size file.layout.units file.layout.weeks) refl h ∙ memory_passed)))
      (λ (h : count * block_size file.layout.units file.layout.weeks ≤ answers). h)
      (lt_or_ge answers (count * block_size file.layout.units file.layout.weeks))

  -- a run that is not turned away has all that is asked for
  with_file : Admitted file asks table answers
  unfolding ask_count count size
  with_file = record { few = asks_few; long = table_least; room = room }

-- its file is accepted
pub run_reads : (ws asks : List ℕ) (table answers scratch : ℕ) → accepted ≡ run_verdict ws asks table answers scratch → read_of ws ≡ accepted
unfolding run_verdict
run_reads ws asks table answers scratch passed =
    first_passed (read_of ws) (and_then (asks_verdict asks) (memory_verdict (problem_of ws) (length asks / 2) table answers scratch)) (sym passed)

-- and with that file it has all that is asked for
pub run_admitted : (ws asks : List ℕ) (table answers scratch : ℕ) (file : File) → file.words.now ≡ ws
    → accepted ≡ run_verdict ws asks table answers scratch → Admitted file asks table answers
run_admitted ws asks table answers scratch file same passed = with_file file asks table answers scratch (rw same passed)
