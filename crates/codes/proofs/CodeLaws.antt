-- The numbers of answers, case by case, and of answers that are equal.
-- Assumes nothing.
use Prim.Native.Nat.{ℕ, ◌<◌}
use Rattle.std.specs.Prelude.{⊤, Option, Result, Ok, Err}
use mathlib.Core.Path.{◌≡◌, refl, ◌∙◌, ap, ap₂}
use mathlib.Core.List.{List}
use native.Mathlib.Omega.{arith}
use Rattle.model.specs.Verdict as model
use Rattle.model.specs.Judgement as judged
use Rattle.model.proofs.BoundLaws.{Bounded, judge_bounded}
use Rattle.decoder.specs.declared.faults.Refusal.{Refusal}
use Rattle.decoder.specs.Answers.{verdict_of, figure_of}
use Rattle.checker.specs.declared.Judgement.{Judgement}
use Rattle.checker.specs.Answers.{judgement_of}
use Rattle.quotes.specs.declared.Quote.{Quote}
use Rattle.quotes.specs.Answers.{quoted_of}
use Rattle.quotes.specs.Quotes.{Quoted, none, quoted, refused_quote}
use Rattle.quotes.proofs.BoundLaws as quotes
use Rattle.codes.specs.Codes.{refused_by, refused_at, figure_refused_by, given, judged_code, judged_place, quoted_code}
use Rattle.codes.specs.Told.{number_in, place_in, verdict_told, figure_told, judgement_told, quote_told}

-- ---- the same answer has the same numbers

module _ (n : ℕ) (a b : model.Verdict) (e : a ≡ b) where
  pub verdict_by : n ≡ refused_by a → n ≡ refused_by b
  verdict_by h = h ∙ ap refused_by e

  pub verdict_at : n ≡ refused_at a → n ≡ refused_at b
  verdict_at h = h ∙ ap refused_at e

module _ (n : ℕ) (a b : model.Figure) (e : a ≡ b) where
  pub reply_by : n ≡ figure_refused_by a → n ≡ figure_refused_by b
  reply_by h = h ∙ ap figure_refused_by e

  pub reply_given : n ≡ given a → n ≡ given b
  reply_given h = h ∙ ap given e

module _ (n : ℕ) (a b : judged.Judgement) (e : a ≡ b) where
  pub judgement_code : n ≡ judged_code a → n ≡ judged_code b
  judgement_code h = h ∙ ap judged_code e

  pub judgement_place : n ≡ judged_place a → n ≡ judged_place b
  judgement_place h = h ∙ ap judged_place e

pub quote_same : (n : ℕ) (a b : Quoted) → a ≡ b → n ≡ quoted_code a → n ≡ quoted_code b
quote_same n a b e h = h ∙ ap quoted_code e

-- ---- what the refusals of this repository tell

pub verdict_meant : (v : Result ⊤ Refusal) → verdict_told number_in place_in v ≡ verdict_of v
verdict_meant (Ok _) = refl
verdict_meant (Err r) = refl

pub figure_meant : (v : Result ℕ Refusal) → figure_told number_in place_in v ≡ figure_of v
figure_meant (Ok n) = refl
figure_meant (Err r) = refl

pub judgement_meant : (v : Result Judgement Refusal) → judgement_told number_in place_in v ≡ judgement_of v
judgement_meant (Ok j) = refl
judgement_meant (Err r) = refl

pub quote_meant : (v : Result (Option Quote) Refusal) → quote_told number_in place_in v ≡ quoted_of v
quote_meant (Ok q) = refl
quote_meant (Err r) = refl

module _ (n : ℕ) (v : Result ⊤ Refusal) (b : model.Verdict) (e : verdict_of v ≡ b) where
  pub told_by : n ≡ refused_by (verdict_told number_in place_in v) → n ≡ refused_by b
  told_by h = verdict_by n (verdict_told number_in place_in v) b (verdict_meant v ∙ e) h

  pub told_at : n ≡ refused_at (verdict_told number_in place_in v) → n ≡ refused_at b
  told_at h = verdict_at n (verdict_told number_in place_in v) b (verdict_meant v ∙ e) h

module _ (n : ℕ) (v : Result ℕ Refusal) (b : model.Figure) (e : figure_of v ≡ b) where
  pub figure_told_by : n ≡ figure_refused_by (figure_told number_in place_in v) → n ≡ figure_refused_by b
  figure_told_by h = reply_by n (figure_told number_in place_in v) b (figure_meant v ∙ e) h

  pub figure_told_given : n ≡ given (figure_told number_in place_in v) → n ≡ given b
  figure_told_given h = reply_given n (figure_told number_in place_in v) b (figure_meant v ∙ e) h

module _ (n : ℕ) (v : Result Judgement Refusal) (b : judged.Judgement) (e : judgement_of v ≡ b) where
  pub judgement_told_code : n ≡ judged_code (judgement_told number_in place_in v) → n ≡ judged_code b
  judgement_told_code h = judgement_code n (judgement_told number_in place_in v) b (judgement_meant v ∙ e) h

  pub judgement_told_place : n ≡ judged_place (judgement_told number_in place_in v) → n ≡ judged_place b
  judgement_told_place h = judgement_place n (judgement_told number_in place_in v) b (judgement_meant v ∙ e) h

pub quote_told_code : (n : ℕ) (v : Result (Option Quote) Refusal) (b : Quoted) → quoted_of v ≡ b
    → n ≡ quoted_code (quote_told number_in place_in v) → n ≡ quoted_code b
quote_told_code n v b e h = quote_same n (quote_told number_in place_in v) b (quote_meant v ∙ e) h

pub ruleset codes = (
  verdict_by,
  verdict_at,
  reply_by,
  reply_given,
  judgement_code,
  judgement_place,
  quote_same,
  told_by,
  told_at,
  figure_told_by,
  figure_told_given,
  judgement_told_code,
  judgement_told_place,
  quote_told_code,
)

-- ---- a judgement's number and place tell it

-- for judgements whose numbers are no larger than the judge's
codes_tell : (a b : judged.Judgement) → Bounded a → Bounded b → judged_code a ≡ judged_code b → judged_place a ≡ judged_place b → a ≡ b
unfolding judged_code judged_place
codes_tell (judged.sound_at c) (judged.sound_at d) h g e q = ap judged.sound_at e
codes_tell (judged.sound_at c) (judged.breaks n) h g e q = absurd (omega arith)
codes_tell (judged.sound_at c) (judged.refused_grid n s) h g e q = absurd (omega arith)
codes_tell (judged.breaks m) (judged.sound_at d) h g e q = absurd (omega arith)
codes_tell (judged.breaks m) (judged.breaks n) h g e q = ap judged.breaks (omega arith)
codes_tell (judged.breaks m) (judged.refused_grid n s) h g e q = absurd (omega arith)
codes_tell (judged.refused_grid m r) (judged.sound_at d) h g e q = absurd (omega arith)
codes_tell (judged.refused_grid m r) (judged.breaks n) h g e q = absurd (omega arith)
codes_tell (judged.refused_grid m r) (judged.refused_grid n s) h g e q = ap₂ judged.refused_grid (omega arith) q

-- so two answers of the judge with the same number and place are the same
pub answers_tell : (ws g vs h : List ℕ) → judged_code (judged.judge_of ws g) ≡ judged_code (judged.judge_of vs h)
    → judged_place (judged.judge_of ws g) ≡ judged_place (judged.judge_of vs h) → judged.judge_of ws g ≡ judged.judge_of vs h
answers_tell ws g vs h = codes_tell (judged.judge_of ws g) (judged.judge_of vs h) (judge_bounded ws g) (judge_bounded vs h)

-- ---- a quote's number tells it

-- it is no refusal's
pub quote_below : (a : Quoted) → quotes.Bounded a → quoted_code a < 9223372036854775808
unfolding quoted_code
quote_below none h = omega arith
quote_below (quoted n c) h = omega (arith, h.0, h.1)
quote_below (refused_quote n s) h = absurd h

-- and two quotes for accepted files with the same number are the same
pub quotes_tell : (a b : Quoted) → quotes.Bounded a → quotes.Bounded b → quoted_code a ≡ quoted_code b → a ≡ b
unfolding quoted_code
quotes_tell none none h g e = refl
quotes_tell none (quoted n c) h g e = absurd (omega (arith, g.0, g.1))
quotes_tell (quoted n c) none h g e = absurd (omega (arith, h.0, h.1))
quotes_tell (quoted n c) (quoted m d) h g e = ap₂ quoted (omega (arith, h.0, g.0)) (omega (arith, h.0, g.0))
quotes_tell (refused_quote n s) b h g e = absurd h
quotes_tell none (refused_quote n s) h g e = absurd g
quotes_tell (quoted n c) (refused_quote m s) h g e = absurd g
