-- What a unit costs where it is not out, and a run with all other units OFF, as the code adds it up; and what is left to need where nobody runs.
-- Assumes nothing.
use Prim.Native.Nat.{ℕ, ◌-◌, ◌≤◌}
use mathlib.Core.Path.{◌≡◌, sym, ◌∙◌, ap}
use mathlib.Core.Bool.{Bool, true, false}
use mathlib.Core.List.{List}
use native.Mathlib.Omega.{arith}
use Rattle.sums.specs.Sum.{sum_to}
use Rattle.sums.specs.NumSet.{only_in, parts, has}
use Rattle.sums.proofs.SumLaws.{sum_zero}
use Rattle.sums.proofs.NumSetLaws.{zero_has}
use Rattle.model.specs.Problem.{Problem}
use Rattle.model.specs.Rules.{output}
use Rattle.model.specs.Words.{problem_of}
use Rattle.model.specs.Commitment.{line_cost, full_cost}
use Rattle.instance.specs.declared.file.File.{File}
use Rattle.instance.specs.File.{problem}
use Rattle.instance.proofs.FigureLaws.{off_none}

-- a unit of the run
pub line_on : (p : Problem) (t run i v : ℕ) (b : Bool) → b ≡ has run i → b ≡ true → v ≡ p.running t i → v ≡ line_cost p t run i
unfolding line_cost parts
line_on p t run i v b is e h = rw (← is, e) h

-- another
pub line_off : (p : Problem) (t run i v : ℕ) (b : Bool) → b ≡ has run i → b ≡ false → v ≡ p.off t i → v ≡ line_cost p t run i
unfolding line_cost parts
line_off p t run i v b is e h = rw (← is, e) h

-- all of them
pub full_ended : (file : File) (t k a run : ℕ) → k ≤ file.layout.units → file.layout.units ≤ k → a ≡ sum_to k (line_cost (problem file) t run)
    → a ≡ full_cost (problem file) t run
unfolding full_cost
full_ended file t k a run h g e =
    let z : k ≡ (problem file).units = omega arith in
    e ∙ ap (λ (n : ℕ). sum_to n (line_cost (problem file) t run)) z

-- nothing, where nobody runs and the file has no OFF costs
pub full_nobody : (file : File) (t : ℕ) → file.layout.pairs ≤ file.layout.offs → 0 ≡ full_cost (problem file) t 0
unfolding full_cost line_cost parts
full_nobody file t none = sym (sum_zero (problem file).units (line_cost (problem file) t 0) (λ i h. rw (zero_has i) (sym (off_none file.words.now file.layout file.filed t i none))))

-- ---- what a run gives

-- nothing, where nobody runs
pub need_nobody : (ws : List ℕ) (t need : ℕ) → need ≡ (problem_of ws).demand t → (run : ℕ) → run ≡ 0
    → need ≡ (problem_of ws).demand t - output (problem_of ws) t (has run)
unfolding output only_in
need_nobody ws t need e run z =
    let p = problem_of ws in
    let none : sum_to p.units (only_in (has 0) (p.capacity t)) ≡ 0
    = sum_zero p.units (only_in (has 0) (p.capacity t)) (λ i h. rw (zero_has i)) in
    rw z (omega (arith, none))
