-- The line printed for an input: by its judgement.
-- Assumes nothing.
use Prim.Native.Nat.{ℕ, ◌≤◌}
use mathlib.Core.Path.{◌≡◌, subst}
use mathlib.Core.List.{List}
use native.Mathlib.Omega.{arith}
use lib.ListN.{length}
use Rattle.model.specs.Judgement as judging
use Rattle.model.specs.Judgement.{judge_input}
use Rattle.model.specs.Lines.{sound_text, rule_text, refusal_text, judgement_text, Written}
use Rattle.report.specs.Put.{Put}
use Rattle.report.proofs.PutLaws.{put_written}

module _ (bs d text : List ℕ) (r : ℕ) (room : 50 ≤ length d) (same : length text ≡ length d) where
  -- of at most 50 bytes
  line : (m : ℕ) (ws : List ℕ) → Put d text 0 r m ws → m ≤ 50 → Written ws d text r
  line m ws h most = let fits : m ≤ length d = omega arith in put_written d text r m ws h fits same

  -- the judgement by another name
  named : (k : judging.Judgement) → k ≡ judge_input bs → Written (judgement_text k) d text r → Written (judgement_text (judge_input bs)) d text r
  named k e h = subst (λ (x : judging.Judgement). Written (judgement_text x) d text r) e h

  -- a sound grid
  pub text_sound : (cost : ℕ) → judging.sound_at cost ≡ judge_input bs → Put d text 0 r 27 (sound_text cost) → Written (judgement_text (judge_input bs)) d text r
  unfolding judgement_text
  text_sound cost q h = named (judging.sound_at cost) q (line 27 (sound_text cost) h (omega arith))

  -- a broken formula
  pub text_rule : (number : ℕ) → judging.breaks number ≡ judge_input bs → Put d text 0 r 26 (rule_text number)
      → Written (judgement_text (judge_input bs)) d text r
  unfolding judgement_text
  text_rule number q h = named (judging.breaks number) q (line 26 (rule_text number) h (omega arith))

  -- a refusal
  pub text_refused : (number n place : ℕ) → n ≡ number → judging.refused_grid number place ≡ judge_input bs → Put d text 0 r 50 (refusal_text n place)
      → Written (judgement_text (judge_input bs)) d text r
  unfolding judgement_text
  text_refused number n place e q h = let k = rw e at h in named (judging.refused_grid number place) q (line 50 (refusal_text number place) k (omega arith))
