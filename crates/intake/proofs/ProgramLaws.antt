-- The program's own buffers make its verdict that of document 01: 13 and 14 never arise, and 15 exactly for more than 14 units.
-- Assumes nothing.
use Prim.Native.Nat.{ℕ, ◌+◌, ◌*◌, ◌/◌, ◌%◌, ◌^◌, ◌≤◌, ◌<◌}
use mathlib.Core.Path.{◌≡◌, refl, sym, ◌∙◌, subst}
use mathlib.Core.Bool.{Bool, true, false}
use mathlib.Core.List.{List}
use mathlib.Core.Logic.{⊎_elim}
use native.Mathlib.Nat.{mul-le-mul}
use native.Mathlib.Omega.{arith}
use lib.Dec.{leb, eqb}
use lib.ListN.{length}
use lib.Pow.{pow_mono}
use borrow.Author.Tests.{le-leb, lt-leb, leb-true}
use Rattle.sums.specs.Logic.{if}
use Rattle.sums.proofs.LogicLaws.{lt_or_ge}
use Rattle.model.specs.Problem.{Problem}
use Rattle.model.specs.Words.{problem_of}
use Rattle.model.specs.Ranges.{Ranged}
use Rattle.model.specs.Verdict.{Verdict, accepted, refused, and_then}
use Rattle.model.specs.Bytes.{bytes_verdict}
use Rattle.model.specs.Reading.{read_of}
use Rattle.model.specs.Refusal.{asks_verdict, block_size, memory_verdict, run_verdict}
use Rattle.model.specs.Asks.{Outcome}
use Rattle.model.specs.Program.{input_file, input_asks, units_verdict, program_verdict}
use Rattle.model.specs.Lines.{PlanPrinted}
use Rattle.model.proofs.FileLaws.{ranged}
use Rattle.asks.proofs.RefusalLaws.{asks_passed}
use Rattle.intake.specs.Buffers.{input_verdict, ShownInput}

-- ---- memory for an accepted file and its asks

-- 2 ^ U words are 16,384 at most exactly where U is 14 at most
scratch_serves : (u : ℕ) → leb (2 ^ u) 16384 ≡ leb u 14
scratch_serves u =
    ⊎_elim (λ (h : 14 < u). more h) (λ (h : u ≤ 14). up_to h) (lt_or_ge 14 u)
  where
    up_to : u ≤ 14 → leb (2 ^ u) 16384 ≡ leb u 14
    up_to h = le-leb (2 ^ u) 16384 (pow_mono h) ∙ sym (le-leb u 14 h)

    more : 14 < u → leb (2 ^ u) 16384 ≡ leb u 14
    more h =
        let double : 2 ^ 15 ≤ 2 ^ u = pow_mono h in
        lt-leb (2 ^ u) 16384 (omega arith) ∙ sym (lt-leb u 14 h)

-- 2,752 words hold the largest blocks of 32 asks: 2 + 2 × 16 + 52 words each
answers_serve : (p : Problem) (asks : ℕ) → Ranged p → asks ≤ 32 → asks * block_size p ≤ 2752
unfolding block_size
answers_serve p asks r few =
    let size : 2 + 2 * p.units + p.weeks ≤ 86 = omega (arith, r.units_most, r.weeks_most) in
    mul-le-mul few size

-- so the number of units decides
memory_serves : (p : Problem) (asks : ℕ) → Ranged p → asks ≤ 32 → memory_verdict p asks 16384 2752 16384 ≡ units_verdict p
unfolding memory_verdict units_verdict
memory_serves p asks r few = rw (le-leb (asks * block_size p) 2752 (answers_serve p asks r few), scratch_serves p.units)

-- ---- the verdict

-- a second test counts only where the first is passed
then_same : (v a b : Verdict) → (v ≡ accepted → a ≡ b) → and_then v a ≡ and_then v b
unfolding and_then
then_same accepted a b e = e refl
then_same (refused number place) a b e = refl

-- of a run
run_verdict_lem : (file asks : List ℕ)
    → run_verdict file asks 16384 2752 16384 ≡ and_then (read_of file) (and_then (asks_verdict asks) (units_verdict (problem_of file)))
unfolding run_verdict
run_verdict_lem file asks =
    then_same (read_of file) (and_then (asks_verdict asks) (memory_verdict (problem_of file) (length asks / 2) 16384 2752 16384))
    (and_then (asks_verdict asks) (units_verdict (problem_of file)))
    (λ e.
    then_same (asks_verdict asks) (memory_verdict (problem_of file) (length asks / 2) 16384 2752 16384) (units_verdict (problem_of file))
    (λ d.
    let few = (asks_passed asks d).2 in
    memory_serves (problem_of file) (length asks / 2) (ranged file e) (omega arith)))

-- of n bytes, of which 8,192 words hold all
module _ (n : ℕ) (ran due : Verdict) (e : ran ≡ due) where
  by_words : (b : Bool) → n ≤ 32768
      → and_then (if b (if (leb (n / 4) 8192) accepted (refused 17 0)) (refused 16 0)) ran ≡ if b due (refused 16 0)
  unfolding and_then
  by_words true h = rw (le-leb (n / 4) 8192 (omega arith)) e
  by_words false h = refl

  by_length : (b : Bool) → leb n 32768 ≡ b
      → if b (and_then (bytes_verdict n 8192) ran) (refused 17 0) ≡ if b (if (eqb (n % 4) 0) due (refused 16 0)) (refused 17 0)
  unfolding bytes_verdict
  by_length true h = by_words (eqb (n % 4) 0) (leb-true n 32768 h)
  by_length false h = refl

-- of an input
pub program_verdict_lem : (bs : List ℕ) → input_verdict bs 16384 2752 16384 ≡ program_verdict bs
unfolding input_verdict program_verdict
program_verdict_lem bs =
    by_length (length bs) (run_verdict (input_file bs) (input_asks bs) 16384 2752 16384)
    (and_then (read_of (input_file bs)) (and_then (asks_verdict (input_asks bs)) (units_verdict (problem_of (input_file bs)))))
    (run_verdict_lem (input_file bs) (input_asks bs)) (leb (length bs) 32768) refl

-- ---- the text

-- buffers of these sizes: the text is the program's
pub text_printed : (bs a₀ t₀ s₀ a t s d text : List ℕ) (r : ℕ) → ShownInput bs a₀ t₀ s₀ a t s d text r
    → length a₀ ≡ 2752 → length t₀ ≡ 16384 → length s₀ ≡ 16384 → PlanPrinted bs d text r
text_printed bs a₀ t₀ s₀ a t s d text r h ea et es = record {
  answers₀ = a₀;
  table₀ = t₀;
  scratch₀ = s₀;
  answers = a;
  table = t;
  scratch = s;
  sizes = (ea, et, es);
  outcome = subst (λ (v : Verdict). Outcome v (input_file bs) (input_asks bs) a₀ t₀ s₀ a t s) same h.ran.outcome;
  shown = rw (h.ran.is, same) at h.shown;
}
  where
    same : input_verdict bs (length t₀) (length a₀) (length s₀) ≡ program_verdict bs
    same = rw (ea, et, es) (program_verdict_lem bs)
