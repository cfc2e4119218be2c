-- Runs of asks that meet demand 3, and runs that do not: the rows' tests are computed; the others are refused by a word.
-- Assumes nothing.
use Prim.Native.Nat.{ℕ, zero, suc, ◌+◌, ◌-◌, ◌≤◌, ◌<◌}
use mathlib.Core.Path.{◌≡◌, refl, sym, ◌∙◌, ap, subst}
use mathlib.Core.List.{List, [], ◌∷◌, ◌++◌, flatten, append_assoc}
use mathlib.Core.Logic.{◌⊎◌, inl, inr, ⊎_elim}
use native.Mathlib.Omega.{arith}
use lib.ListN.{length, get_or, drop, replicate}
use lib.Dec.{T}
use Rattle.model.specs.Problem.{Problem}
use Rattle.model.specs.Words.{◌∶◌, value_at, layout_of, problem_of}
use Rattle.model.specs.Nogood.{Choice, Nogood, choice_words, nogood_words, nogoods_words, Table}
use Rattle.model.specs.Answer.{Answer, optimal, infeasible, incumbent, unknown, Correct, zeros, block_of, blocks_of}
use Rattle.model.specs.Asks.{ask_count, ceiling_at, budget_at, answer_at, Answered}
use Rattle.model.proofs.FileLaws.{fair}
use Rattle.claims.specs.Files.{file_a}
use Rattle.claims.specs.Tests.{computes}
use Rattle.figures.specs.Runs.{first_words, one_ask, none_words, run_rows, StrayWord, StrayStatus, StrayAnswer, LongerTable, NineChoices, Runs}
use Rattle.claims.proofs.RunLaws.{told_is}
use Rattle.claims.proofs.RowLaws.{all_of_computed}
use Rattle.claims.proofs.Rows.{rows_hold}

computed : T (computes run_rows)
unfolding computes first_words
computed = tt

-- ---- words that no run leaves

-- all are 0
abbrev AllZero : List ℕ → Type 0
AllZero [] = Unit {0}
AllZero (w ∷ ws) = (w ≡ 0) × AllZero ws

-- words of kind 13 or 14, then 0 to the end
abbrev Tidy : List ℕ → Type 0
Tidy [] = Unit {0}
Tidy (w ∷ ws) = ((w ≡ 0) × AllZero ws) ⊎ ((13 ∶ 0 ≤ w) × Tidy ws)

zeros_zero : (n : ℕ) → AllZero (replicate n 0)
zeros_zero zero = tt
zeros_zero (suc n) = (refl, zeros_zero n)

zeros_tidy : (n : ℕ) → Tidy (replicate n 0)
zeros_tidy zero = tt
zeros_tidy (suc n) = inl (refl, zeros_zero n)

choices_tidy : (cs : List Choice) (ws : List ℕ) → Tidy ws → Tidy (choice_words cs ++ ws)
unfolding choice_words
choices_tidy [] ws h = h
choices_tidy (c ∷ cs) ws h = inr (omega arith, choices_tidy cs ws h)

nogoods_tidy : (gs : List Nogood) (n : ℕ) → Tidy (nogoods_words gs ++ replicate n 0)
unfolding nogoods_words nogood_words
nogoods_tidy [] n = zeros_tidy n
nogoods_tidy (g ∷ gs) n =
    inr (
      omega arith,
      subst Tidy (sym (append_assoc (choice_words g.choices) (nogoods_words gs) (replicate n 0)))
          (choices_tidy g.choices (nogoods_words gs ++ replicate n 0) (nogoods_tidy gs n)),
    )

table_tidy : (p : Problem) (gs : List Nogood) (words : List ℕ) → Table p gs words → Tidy words
table_tidy p gs words h = subst Tidy (sym h.stand) (nogoods_tidy gs (length words - length (nogoods_words gs)))

-- behind a word of kind 13
tidy_next : (w : ℕ) (ws : List ℕ) → 13 ∶ 0 ≤ w → Tidy (w ∷ ws) → Tidy ws
tidy_next w ws h (inl z) = absurd (omega (arith, z.0))
tidy_next w ws h (inr t) = t.1

stray : (w v : ℕ) (ws : List ℕ) → w < 13 ∶ 0 → 0 < w + v → Tidy (w ∷ v ∷ ws) → ⊥
stray w v ws h k (inl z) = omega (arith, z.0, z.1.0)
stray w v ws h k (inr t) = omega (arith, t.0)

stray_word : StrayWord
unfolding zeros
stray_word = (
  (λ answers₀ table₀ scratch₀ scratch run. stray 1 0 (zeros 61) (omega arith) (omega arith) (after answers₀ (1 ∷ zeros 62) run.outcome.0)),
  (λ answers₀ table₀ scratch₀ scratch run. stray 0 (13 ∶ 17) (zeros 61) (omega arith) (omega arith) (after answers₀ (0 ∷ 13 ∶ 17 ∷ zeros 61) run.outcome.0)),
)
  where
    after : (answers₀ ws : List ℕ) → Answered (problem_of file_a) (one_ask 18) answers₀ none_words (13 ∶ 18 ∷ ws) → Tidy ws
    after answers₀ ws x = tidy_next (13 ∶ 18) ws (omega arith) (table_tidy (problem_of file_a) (flatten x.left) (13 ∶ 18 ∷ ws) x.stands)

-- the first word of a block is one of the four numbers
status_range : (p : Problem) (told : List Answer) (k : ℕ) (ws r : List ℕ) → 1 ≤ length told → k ∷ ws ≡ blocks_of p told ++ r → (1 ≤ k) × (k ≤ 4)
unfolding blocks_of block_of
status_range p [] k ws r l e = absurd (omega arith)
status_range p (optimal c ss rs ∷ told) k ws r l e = let z : k ≡ 1 = cc in (omega arith, omega arith)
status_range p (infeasible ∷ told) k ws r l e = let z : k ≡ 2 = cc in (omega arith, omega arith)
status_range p (incumbent c ss rs mark ∷ told) k ws r l e = let z : k ≡ 3 = cc in (omega arith, omega arith)
status_range p (unknown mark ∷ told) k ws r l e = let z : k ≡ 4 = cc in (omega arith, omega arith)

stray_status : StrayStatus
unfolding ask_count
stray_status status rest table h answers₀ table₀ scratch₀ scratch run =
    let x : Answered (problem_of file_a) (one_ask 18) answers₀ (status ∷ rest) table = run.outcome.0 in
    let each = x.each in
    let range = status_range (problem_of file_a) x.told status rest (drop (length (blocks_of (problem_of file_a) x.told)) answers₀) (omega arith) x.blocks in
    ⊎_elim (λ (l : status < 1). omega (arith, range.0)) (λ (l : 4 < status). omega (arith, range.1)) h

-- P2
none_A : (k : ℕ) → k < ask_count (one_ask 18) → Correct (problem_of file_a) (ceiling_at (one_ask 18) k) (budget_at (one_ask 18) k) (answer_at (infeasible ∷ []) k)
unfolding ask_count ceiling_at budget_at answer_at value_at
none_A zero l = rows_hold.1.0.1
none_A (suc k) l = absurd (omega arith)

none_words_lem : none_words ≡ blocks_of (problem_of file_a) (infeasible ∷ [])
unfolding blocks_of problem_of layout_of value_at
none_words_lem = refl

stray_answer : StrayAnswer
unfolding zeros ask_count
stray_answer table₀ scratch₀ table scratch run =
    let p = problem_of file_a in
    let x : Answered p (one_ask 18) (zeros 10) (none_words ++ (1 ∷ [])) table = run.outcome.0 in
    let tells : x.told ≡ infeasible ∷ [] =
    told_is p (fair file_a rows_hold.0.0) (one_ask 18) (one_ask 18) (zeros 10) (none_words ++ (1 ∷ [])) table (infeasible ∷ []) (1 ∷ []) refl
    (ap (λ (l : List ℕ). l ++ (1 ∷ [])) none_words_lem) none_A x in
    let kept : none_words ++ (1 ∷ []) ≡ none_words ++ (0 ∷ []) =
    x.blocks ∙ ap (λ (l : List ℕ). l ++ drop (length l) (zeros 10)) (ap (blocks_of p) tells ∙ sym none_words_lem) in
    let last : ◌≡◌ {A = ℕ} 1 0 = ap (λ (l : List ℕ). get_or l 9 0) kept in
    omega (arith, last)

longer_table : LongerTable
longer_table file asks answers₀ table₀ scratch₀ answers table scratch l run = omega (arith, l, run.outcome.1)

nine_choices : NineChoices
nine_choices p g e h = omega (arith, e, h.few)

pub runs : Runs
runs = (all_of_computed run_rows computed, stray_word, stray_status, stray_answer, longer_table, nine_choices)
