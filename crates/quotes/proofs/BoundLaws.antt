-- How large the numbers and costs of quotes are, so that one word of 64 bits can tell both.
-- Assumes nothing.
use Prim.Native.Nat.{ℕ, ◌-◌, ◌^◌, ◌≤◌, ◌<◌}
use mathlib.Core.Path.{◌≡◌, refl}
use mathlib.Core.Bool.{Bool, true, false}
use mathlib.Core.List.{List}
use native.Mathlib.Nat.{mul-le-mul_right}
use native.Mathlib.Omega.{arith}
use lib.Pow.{pow_mono}
use Rattle.sums.specs.Logic.{if}
use Rattle.sums.specs.Sum.{transposed}
use Rattle.sums.specs.NumSet.{has}
use Rattle.sums.proofs.NumSetLaws.{sum_over}
use Rattle.model.specs.Domain.{permitted}
use Rattle.model.specs.Plan.{upkeep}
use Rattle.model.specs.Schedule.{in_span}
use Rattle.model.specs.Commitment.{Pick, nothing, picked, IsPick, cheapest_run}
use Rattle.model.specs.Words.{layout_of, problem_of}
use Rattle.model.specs.Verdict.{accepted}
use Rattle.model.specs.Reading.{read_of}
use Rattle.model.proofs.CommitmentLaws.{cheapest_right}
use Rattle.model.proofs.DomainLaws.{permits_to}
use Rattle.model.proofs.FileLaws.{ranged}
use Rattle.instance.proofs.FiledLaws.{filed, file_of}
use Rattle.sets.specs.Sets.{SETS}
use Rattle.commitment.proofs.ScoreLaws.{served_small}
use Rattle.quotes.specs.Quotes.{Quoted, none, quoted, refused_quote, among, pick_quote, run_quote, start_quote, upkeep_quote}
use Rattle.quotes.proofs.QuoteLaws.{among_some, among_most}

-- 2 ^ 24: what a week's run and an overhaul cost lies below it
abbrev pub QUOTE_LIMIT : ℕ
QUOTE_LIMIT = 16777216

-- no refusal; the number of a run, and a cost below the limit
abbrev pub Bounded : Quoted → Type 0
Bounded none = Unit
Bounded (quoted number cost) = (number < SETS) × (cost < QUOTE_LIMIT)
Bounded (refused_quote number place) = ⊥

module _ (ws : List ℕ) (e : read_of ws ≡ accepted) where
  -- a week of the file
  week_bounded : (t out : ℕ) → t < (layout_of ws).weeks → (f : Pick) → IsPick (problem_of ws) t (has out) f
      → Bounded (pick_quote (problem_of ws) t (has out) f)
  unfolding pick_quote
  week_bounded t out h nothing s = tt
  week_bounded t out h (picked r) s =
      let few : (problem_of ws).units ≤ 16 = (ranged ws e).units_most in
      let m : 2 ^ (problem_of ws).units ≤ 2 ^ 16 = pow_mono few in
      (omega (arith, s.serves.run.units), omega (arith, served_small (file_of ws e) t (has out) h r s.serves))

  -- the quote for a week of an accepted file
  pub run_bounded : (week out : ℕ) → Bounded (run_quote (problem_of ws) week out)
  unfolding run_quote
  run_bounded week out = by (among (problem_of ws).weeks week) refl
    where
      by : (b : Bool) → among (problem_of ws).weeks week ≡ b
          → Bounded (if b (pick_quote (problem_of ws) (week - 1) (has out) (cheapest_run (problem_of ws) (week - 1) (has out))) none)
      by false q = tt
      by true q =
          let some = among_some (problem_of ws).weeks week q in
          let most = among_most (problem_of ws).weeks week q in
          let h : week - 1 < (layout_of ws).weeks = omega (arith, (filed ws (layout_of ws) e refl).weeks_are) in
          week_bounded (week - 1) out h (cheapest_run (problem_of ws) (week - 1) (has out)) (cheapest_right (problem_of ws) (week - 1) (has out))

  upkeep_small : (i start : ℕ) → i < (problem_of ws).units → upkeep (problem_of ws) i start ≤ 13000000
  unfolding upkeep transposed
  upkeep_small i start h =
      let p = problem_of ws in
      let g = ranged ws e in
      let b = sum_over p.weeks 250000 (in_span start (p.duration i)) (transposed p.maint i) (λ t l. g.maint_most t i l h) in
      omega (arith, mul-le-mul_right 250000 g.weeks_most)

  start_bounded : (i start : ℕ) → i < (problem_of ws).units → Bounded (start_quote (problem_of ws) i start)
  unfolding start_quote
  start_bounded i start h = by (permitted (problem_of ws) i start) refl
    where
      by : (b : Bool) → permitted (problem_of ws) i start ≡ b → Bounded (if b (quoted start (upkeep (problem_of ws) i start)) none)
      by false q = tt
      by true q =
          let g = ranged ws e in
          (omega (arith, permits_to (problem_of ws) i start q, g.latest_most i h, g.weeks_most), omega (arith, upkeep_small i start h))

  -- the quote for an overhaul
  pub upkeep_bounded : (unit start : ℕ) → Bounded (upkeep_quote (problem_of ws) unit start)
  unfolding upkeep_quote
  upkeep_bounded unit start = by (among (problem_of ws).units unit) refl
    where
      by : (b : Bool) → among (problem_of ws).units unit ≡ b → Bounded (if b (start_quote (problem_of ws) (unit - 1) start) none)
      by false q = tt
      by true q =
          let some = among_some (problem_of ws).units unit q in
          let most = among_most (problem_of ws).units unit q in
          start_bounded (unit - 1) start (omega arith)
