-- The parts of a line, put one after another.
-- Assumes nothing.
use Prim.Native.Nat.{ℕ, suc, ◌+◌, ◌*◌, ◌≤◌, ◌<◌}
use mathlib.Core.Path.{◌≡◌, sym, subst}
use mathlib.Core.List.{List, [], ◌∷◌, ◌++◌}
use native.Mathlib.Nat.{mul-le-mul, mul-le-mul_right, add-mul, one-mul}
use native.Mathlib.Numerals.{add-one}
use native.Mathlib.Omega.{arith}
use lib.ListN.{length, get_or}
use mir.Syntax.{w64}
use mir.Val.{Fits}
use borrow.Author.Tests.{eq-eqb, ne_eqb}
use Rattle.model.specs.Lines.{ask_word, refused_word, plan_word, none_word, best_word, spent_word, starts_word, run_word, mark_word, sound_word, rule_word}
use Rattle.model.specs.Lines.{number_text, words_text, schedule_text, mark_text, best_text, block_text, line_text, lines_text, refusal_text, sound_text, rule_text}
use Rattle.shape.specs.Shape.{COST_PLACE, START_PLACE, runs_at, mark_at, block_size}
use Rattle.report.specs.Lengths.{STARTS, SCHEDULE, MARK, BLOCK, LINE, TEXT}
use Rattle.report.specs.Parts.{starts_text, spent_text}
use Rattle.report.specs.Put.{Put, Whole, Listed}
use Rattle.report.proofs.PutLaws.{put_nothing, put_join, put_most}

-- the cost and the starts
pub starts_put : (ws : List ℕ) (b u : ℕ) (d d₁ d₂ d₃ : List ℕ) (at k₁ k₂ r x : ℕ) → u ≤ 16 → at + STARTS ≤ length d → x ≡ get_or ws (b + COST_PLACE) 0
    → Put d d₁ at k₁ 21 (number_text x) → Put d₁ d₂ k₁ k₂ 7 starts_word → Put d₂ d₃ k₂ r (21 * u) (words_text ws (b + START_PLACE) u)
    → Put d d₃ at r STARTS (starts_text ws b u)
unfolding starts_text
starts_put ws b u d d₁ d₂ d₃ at k₁ k₂ r x few room is f₁ f₂ f₃ =
    let low : at ≤ length d = omega arith in
    let most : 21 + 7 + 21 * u ≤ STARTS = omega arith in
    let c = number_text (get_or ws (b + COST_PLACE) 0) in
    let own : Put d d₁ at k₁ 21 c = rw is at f₁ in
    let two = put_join d d₁ d₂ at k₁ k₂ 21 7 c starts_word low own f₂ in
    put_most d d₃ at r (21 + 7 + 21 * u) STARTS (starts_text ws b u)
    (put_join d d₂ d₃ at k₂ r (21 + 7) (21 * u) (c ++ starts_word) (words_text ws (b + START_PLACE) u) low two f₃)
    most

-- " spent" and the mark
pub spent_put : (ws : List ℕ) (b u w : ℕ) (d d₁ d₂ : List ℕ) (at k r : ℕ) → at + BLOCK ≤ length d → Put d d₁ at k 6 spent_word
    → Put d₁ d₂ k r MARK (mark_text ws b u w) → Put d d₂ at r BLOCK (spent_text ws b u w)
unfolding spent_text
spent_put ws b u w d d₁ d₂ at k r room f g =
    let low : at ≤ length d = omega arith in
    let most : 6 + MARK ≤ BLOCK = omega arith in
    put_most d d₂ at r (6 + MARK) BLOCK (spent_text ws b u w) (put_join d d₁ d₂ at k r 6 MARK spent_word (mark_text ws b u w) low f g) most

module _ (ws : List ℕ) (b u w : ℕ) (whole : Whole (length ws) b u w) where
  -- " mark" and its starts
  pub mark_put : (d d₁ d₂ : List ℕ) (at k r mark : ℕ) → mark ≡ mark_at u w → at + MARK ≤ length d → Put d d₁ at k 5 mark_word
      → Put d₁ d₂ k r (21 * u) (words_text ws (b + mark) u) → Put d d₂ at r MARK (mark_text ws b u w)
  unfolding mark_text
  mark_put d d₁ d₂ at k r mark is room f g =
      let low : at ≤ length d = omega arith in
      let most : 5 + 21 * u ≤ MARK = omega (arith, whole.units) in
      let place : b + mark ≡ b + 2 + u + w = omega arith in
      let starts = subst (λ (q : ℕ). Put d₁ d₂ k r (21 * u) (words_text ws q u)) place g in
      put_most d d₂ at r (5 + 21 * u) MARK (mark_text ws b u w) (put_join d d₁ d₂ at k r 5 (21 * u) mark_word (words_text ws (b + 2 + u + w) u) low f starts) most

  -- the cost and the starts, the runs
  pub schedule_put : (d d₁ d₂ d₃ : List ℕ) (at k₁ k₂ r runs : ℕ) → runs ≡ runs_at u → at + SCHEDULE ≤ length d
      → Put d d₁ at k₁ STARTS (starts_text ws b u) → Put d₁ d₂ k₁ k₂ 4 run_word → Put d₂ d₃ k₂ r (21 * w) (words_text ws (b + runs) w)
      → Put d d₃ at r SCHEDULE (schedule_text ws b u w)
  unfolding schedule_text starts_text
  schedule_put d d₁ d₂ d₃ at k₁ k₂ r runs are room f₁ f₂ f₃ =
      let low : at ≤ length d = omega arith in
      let most : STARTS + 4 + 21 * w ≤ SCHEDULE = omega (arith, whole.weeks) in
      let two = put_join d d₁ d₂ at k₁ k₂ STARTS 4 (starts_text ws b u) run_word low f₁ f₂ in
      let place : b + runs ≡ b + 2 + u = omega arith in
      let last = subst (λ (q : ℕ). Put d₂ d₃ k₂ r (21 * w) (words_text ws q w)) place f₃ in
      put_most d d₃ at r (STARTS + 4 + 21 * w) SCHEDULE (schedule_text ws b u w)
      (put_join d d₂ d₃ at k₂ r (STARTS + 4) (21 * w) (starts_text ws b u ++ run_word) (words_text ws (b + 2 + u) w) low two last)
      most

  -- " best" with both
  pub best_put : (d d₁ d₂ d₃ : List ℕ) (at k₁ k₂ r : ℕ) → at + BLOCK ≤ length d → Put d d₁ at k₁ 5 best_word
      → Put d₁ d₂ k₁ k₂ SCHEDULE (schedule_text ws b u w) → Put d₂ d₃ k₂ r MARK (mark_text ws b u w) → Put d d₃ at r BLOCK (best_text ws b u w)
  unfolding best_text
  best_put d d₁ d₂ d₃ at k₁ k₂ r room f₁ f₂ f₃ =
      let low : at ≤ length d = omega arith in
      put_join d d₂ d₃ at k₂ r (5 + SCHEDULE) MARK (best_word ++ schedule_text ws b u w) (mark_text ws b u w) low
      (put_join d d₁ d₂ at k₁ k₂ 5 SCHEDULE best_word (schedule_text ws b u w) low f₁ f₂) f₃

-- ---- a block by its status

module _ (ws : List ℕ) (b u w : ℕ) (d d₁ d₂ : List ℕ) (at k r s : ℕ) (is : s ≡ get_or ws b 0) (room : at + BLOCK ≤ length d) where
  -- a plan
  pub block_plan : s ≡ 1 → Put d d₁ at k 5 plan_word → Put d₁ d₂ k r SCHEDULE (schedule_text ws b u w)
      → Put d d₂ at r BLOCK (block_text ws b u w)
  unfolding block_text
  block_plan e f g =
      let low : at ≤ length d = omega arith in
      let most : 5 + SCHEDULE ≤ BLOCK = omega arith in
      rw (← is, eq-eqb s 1 e)
      (put_most d d₂ at r (5 + SCHEDULE) BLOCK (plan_word ++ schedule_text ws b u w) (put_join d d₁ d₂ at k r 5 SCHEDULE plan_word (schedule_text ws b u w) low f g) most)

  module _ (not-plan : s ≡ 1 → ⊥) where
    -- none
    pub block_none : s ≡ 2 → Put d d₁ at r 5 none_word → Put d d₁ at r BLOCK (block_text ws b u w)
    unfolding block_text
    block_none e f =
        let most : 5 ≤ BLOCK = omega arith in
        rw (← is, ne_eqb s 1 not-plan, eq-eqb s 2 e) (put_most d d₁ at r 5 BLOCK none_word f most)

    module _ (not-none : s ≡ 2 → ⊥) where
      -- a best before the mark
      pub block_best : s ≡ 3 → Put d d₁ at r BLOCK (best_text ws b u w) → Put d d₁ at r BLOCK (block_text ws b u w)
      unfolding block_text
      block_best e f = rw (← is, ne_eqb s 1 not-plan, ne_eqb s 2 not-none, eq-eqb s 3 e) f

-- a mark alone
pub block_spent : (ws : List ℕ) (b u w : ℕ) (d d' : List ℕ) (at r : ℕ) → (get_or ws b 0 ≡ 1 → ⊥) → (get_or ws b 0 ≡ 2 → ⊥) → (get_or ws b 0 ≡ 3 → ⊥)
    → Put d d' at r BLOCK (spent_text ws b u w) → Put d d' at r BLOCK (block_text ws b u w)
unfolding block_text spent_text
block_spent ws b u w d d' at r not-plan not-none not-best f =
    rw (ne_eqb (get_or ws b 0) 1 not-plan, ne_eqb (get_or ws b 0) 2 not-none, ne_eqb (get_or ws b 0) 3 not-best) f

-- ---- lines

-- the place of a block is a number of places
pub line_fits : (k size : ℕ) → k < 32 → size ≤ 86 → Fits w64 (k * size)
line_fits k size h g = let few : k ≤ 32 = omega arith in let m = mul-le-mul few g in omega arith

-- and the block stands there
pub line_whole : (words k u w size : ℕ) → Whole words (k * block_size u w) u w → size ≡ block_size u w → Whole words (k * size) u w
line_whole words k u w size h is = subst (λ (n : ℕ). Whole words (k * n) u w) (sym is) h

-- one line
pub line_put : (ws : List ℕ) (k u w : ℕ) (d d₁ d₂ d₃ d₄ : List ℕ) (at k₁ k₂ k₃ r size : ℕ) → size ≡ block_size u w → at + LINE ≤ length d
    → Put d d₁ at k₁ 3 ask_word → Put d₁ d₂ k₁ k₂ 21 (number_text (k + 1))
    → Put d₂ d₃ k₂ k₃ BLOCK (block_text ws (k * size) u w) → Put d₃ d₄ k₃ r 1 (10 ∷ [])
    → Put d d₄ at r LINE (line_text ws k u w)
unfolding line_text
line_put ws k u w d d₁ d₂ d₃ d₄ at k₁ k₂ k₃ r size is room f₁ f₂ f₃ f₄ =
    let low : at ≤ length d = omega arith in
    let block = block_text ws (k * block_size u w) u w in
    let told = subst (λ (n : ℕ). Put d₂ d₃ k₂ k₃ BLOCK (block_text ws (k * n) u w)) is f₃ in
    let two = put_join d d₁ d₂ at k₁ k₂ 3 21 ask_word (number_text (k + 1)) low f₁ f₂ in
    let three = put_join d d₂ d₃ at k₂ k₃ 24 BLOCK (ask_word ++ number_text (k + 1)) block low two told in
    put_join d d₃ d₄ at k₃ r (24 + BLOCK) 1 (ask_word ++ number_text (k + 1) ++ block) (10 ∷ []) low three f₄

-- none yet
pub lines_start : (d ws : List ℕ) (u w : ℕ) → Put d d 0 0 (LINE * 0) (lines_text ws 0 u w)
unfolding lines_text
lines_start d ws u w = put_nothing d 0

module _ (ws : List ℕ) (asks u w k : ℕ) (listed : Listed (length ws) asks u w) (less : k < asks) where
  -- the block of the next ask is there
  pub lines_whole : Whole (length ws) (k * block_size u w) u w
  lines_whole =
      let size = block_size u w in
      let upto : k + 1 ≤ asks = omega arith in
      let all : (k + 1) * size ≤ asks * size = mul-le-mul_right size upto in
      record { units = listed.units; weeks = listed.weeks; within = omega (arith, all, listed.within, add-mul k 1 size, one-mul size) }

  -- it is one of 32
  pub lines_few : k < 32
  lines_few = omega (arith, listed.few)

  module _ (d l : List ℕ) (n : ℕ) (f : Put d l 0 n (LINE * k) (lines_text ws k u w)) where
    -- there is room for its line
    pub lines_room : TEXT ≤ length d → length l ≡ length d → n + LINE ≤ length l
    lines_room room same = omega (arith, f.end, f.short, listed.few)

    -- its line behind the others
    pub lines_next : (l' : List ℕ) (r : ℕ) → Put l l' n r LINE (line_text ws k u w) → Put d l' 0 r (LINE * (k + 1)) (lines_text ws (k + 1) u w)
    unfolding lines_text
    lines_next l' r g =
        let low : 0 ≤ length d = omega arith in
        let more : LINE * k + LINE ≡ LINE * suc k = omega arith in
        rw (add-one k)
        (subst (λ (m : ℕ). Put d l' 0 r m (lines_text ws k u w ++ line_text ws k u w)) more
        (put_join d l l' 0 n r (LINE * k) LINE (lines_text ws k u w) (line_text ws k u w) low f g))

-- all of them
pub lines_ended : (ws d l : List ℕ) (asks u w k n : ℕ) → Put d l 0 n (LINE * k) (lines_text ws k u w) → k ≤ asks → asks ≤ k
    → Put d l 0 n (LINE * asks) (lines_text ws asks u w)
lines_ended ws d l asks u w k n h a b = let e : k ≡ asks = omega arith in rw e at h

-- the line of a refusal
pub refusal_put : (number place x : ℕ) (d d₁ d₂ d₃ d₄ : List ℕ) (k₁ k₂ k₃ r : ℕ) → x ≡ number → Put d d₁ 0 k₁ 7 refused_word
    → Put d₁ d₂ k₁ k₂ 21 (number_text x) → Put d₂ d₃ k₂ k₃ 21 (number_text place) → Put d₃ d₄ k₃ r 1 (10 ∷ [])
    → Put d d₄ 0 r 50 (refusal_text number place)
unfolding refusal_text
refusal_put number place x d d₁ d₂ d₃ d₄ k₁ k₂ k₃ r is f₁ f₂ f₃ f₄ =
    let low : 0 ≤ length d = omega arith in
    let own : Put d₁ d₂ k₁ k₂ 21 (number_text number) = rw is at f₂ in
    let two = put_join d d₁ d₂ 0 k₁ k₂ 7 21 refused_word (number_text number) low f₁ own in
    let three = put_join d d₂ d₃ 0 k₂ k₃ 28 21 (refused_word ++ number_text number) (number_text place) low two f₃ in
    put_join d d₃ d₄ 0 k₃ r 49 1 (refused_word ++ number_text number ++ number_text place) (10 ∷ []) low three f₄

-- ---- the line of a judgement

module _ (d d₁ d₂ d₃ : List ℕ) (k₁ k₂ r x : ℕ) (f₂ : Put d₁ d₂ k₁ k₂ 21 (number_text x)) (f₃ : Put d₂ d₃ k₂ r 1 (10 ∷ [])) where
  -- a word, a number, a line feed
  word_put : (n : ℕ) (word : List ℕ) → Put d d₁ 0 k₁ n word → Put d d₃ 0 r (n + 21 + 1) (word ++ number_text x ++ (10 ∷ []))
  word_put n word f₁ =
      let low : 0 ≤ length d = omega arith in
      let two = put_join d d₁ d₂ 0 k₁ k₂ n 21 word (number_text x) low f₁ f₂ in
      put_join d d₂ d₃ 0 k₂ r (n + 21) 1 (word ++ number_text x) (10 ∷ []) low two f₃

  -- a sound grid's
  pub sound_put : Put d d₁ 0 k₁ 5 sound_word → Put d d₃ 0 r 27 (sound_text x)
  unfolding sound_text
  sound_put f₁ = word_put 5 sound_word f₁

  -- a broken formula's
  pub rule_put : (number : ℕ) → x ≡ number → Put d d₁ 0 k₁ 4 rule_word → Put d d₃ 0 r 26 (rule_text number)
  unfolding rule_text
  rule_put number is f₁ = rw (← is) (word_put 4 rule_word f₁)
