-- Answers that are equal leave the same in lent memory.
-- Assumes nothing.
use Prim.Native.Nat.{ℕ}
use mathlib.Core.Path.{◌≡◌, ◌∙◌, ap, subst}
use mathlib.Core.List.{List}
use lib.ListN.{length}
use Rattle.model.specs.Bytes.{loaded_into}
use Rattle.model.specs.Verdict.{Verdict, Figure}
use Rattle.model.specs.Problem.{Problem}
use Rattle.model.specs.Schedule.{Schedule}
use Rattle.model.specs.Drawing.{drawn_into}
use Rattle.model.specs.Refusal.{run_verdict}
use Rattle.model.specs.Asks.{Outcome, Ran}
use Rattle.quotes.specs.Quotes.{costs_into, KeptIfRefused}

-- the same words
pub reply_into : (a b : Figure) (bs ws r : List ℕ) → a ≡ b → r ≡ loaded_into a bs ws → r ≡ loaded_into b bs ws
reply_into a b bs ws r e h = h ∙ ap (λ (x : Figure). loaded_into x bs ws) e

-- the same bytes
pub verdict_into : (a b : Verdict) (p : Problem) (s : Schedule) (bs r : List ℕ) → a ≡ b → r ≡ drawn_into a p s bs → r ≡ drawn_into b p s bs
verdict_into a b p s bs r e h = h ∙ ap (λ (x : Verdict). drawn_into x p s bs) e

-- the same costs, and the same scratch
pub costs_into_lem : (a b : Verdict) (p : Problem) (qs cs r : List ℕ) → a ≡ b → r ≡ costs_into a p qs cs → r ≡ costs_into b p qs cs
costs_into_lem a b p qs cs r e h = h ∙ ap (λ (x : Verdict). costs_into x p qs cs) e

pub scratch_kept : (a b : Verdict) (xs ys : List ℕ) → a ≡ b → KeptIfRefused a xs ys → KeptIfRefused b xs ys
scratch_kept a b xs ys e h = subst (λ (x : Verdict). KeptIfRefused x xs ys) e h

-- the same outcome of a run
pub run_outcome : (a : Verdict) (file asks answers₀ table₀ scratch₀ answers table scratch : List ℕ)
    → Ran a file asks answers₀ table₀ scratch₀ answers table scratch
    → Outcome (run_verdict file asks (length table₀) (length answers₀) (length scratch₀)) file asks answers₀ table₀ scratch₀ answers table scratch
run_outcome a file asks answers₀ table₀ scratch₀ answers table scratch r =
    subst (λ (v : Verdict). Outcome v file asks answers₀ table₀ scratch₀ answers table scratch) r.told r.outcome

pub ruleset memory = (reply_into, verdict_into, costs_into_lem, scratch_kept, run_outcome)
