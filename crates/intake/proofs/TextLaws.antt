-- The text printed for an input: by what the program is told.
-- Assumes nothing.
use Prim.Native.Nat.{ℕ, ◌*◌, ◌≤◌}
use mathlib.Core.Path.{◌≡◌}
use mathlib.Core.List.{List}
use native.Mathlib.Omega.{arith}
use lib.ListN.{length}
use Rattle.model.specs.Program.{refused_plan, planned}
use Rattle.model.specs.Lines.{lines_text, refusal_text, printed}
use Rattle.report.specs.Lengths.{LINE, TEXT}
use Rattle.report.specs.Put.{Put, Listed}
use Rattle.report.proofs.PutLaws.{put_written}
use Rattle.intake.specs.Buffers.{RanInput, ShownInput}

module _ (bs a₀ t₀ s₀ a t s d text : List ℕ) (r : ℕ) (room : TEXT ≤ length d) (same : length text ≡ length d) where
  -- a refusal's line
  pub text_refused : (number n place : ℕ) → n ≡ number → RanInput (refused_plan number place) bs a₀ t₀ s₀ a t s → Put d text 0 r 50 (refusal_text n place)
      → ShownInput bs a₀ t₀ s₀ a t s d text r
  unfolding printed
  text_refused number n place e ran h =
      let line = rw e at h in
      let fits : 50 ≤ length d = omega arith in
      record {
        told = refused_plan number place;
        ran = ran;
        shown = put_written d text r 50 (refusal_text number place) line fits same;
      }

  -- the lines of the asks
  pub text_lines : (words asks units weeks : ℕ) → Listed words asks units weeks → RanInput (planned asks units weeks) bs a₀ t₀ s₀ a t s
      → Put d text 0 r (LINE * asks) (lines_text a asks units weeks) → ShownInput bs a₀ t₀ s₀ a t s d text r
  unfolding printed
  text_lines words asks units weeks l ran h =
      let fits : LINE * asks ≤ length d = omega (arith, l.few) in
      record {
        told = planned asks units weeks;
        ran = ran;
        shown = put_written d text r (LINE * asks) (lines_text a asks units weeks) h fits same;
      }

-- the blocks of the asks are there
pub text_listed : (words words' asks units weeks : ℕ) → Listed words asks units weeks → words' ≡ words → Listed words' asks units weeks
text_listed words words' asks units weeks l same = record { units = l.units; weeks = l.weeks; few = l.few; within = omega (arith, l.within) }
