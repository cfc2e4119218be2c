-- The worked run of document 01 meets demand 3 as the definitions state it, and is printed as the paper prints it: they can be met, and by the
-- paper's own words. Assumes nothing.
use mathlib.Core.Path.{refl}
use mathlib.Core.List.{[], ◌∷◌}
use lib.Dec.{T}
use Rattle.model.specs.Lines.{printed}
use Rattle.claims.specs.Tests.{computes}
use Rattle.claims.specs.Worked.{worked_row, WorkedRun, WorkedText, Worked}
use Rattle.claims.proofs.RowLaws.{all_of_computed}

computed : T (computes (worked_row ∷ []))
unfolding computes
computed = tt

worked_run : WorkedRun
worked_run = (all_of_computed (worked_row ∷ []) computed).0.1

worked_text : WorkedText
unfolding printed
worked_text = refl

pub worked : Worked
worked = (worked_run, worked_text)
