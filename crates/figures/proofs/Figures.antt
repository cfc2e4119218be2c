-- THE WORKED FIGURES: the paper's figures and the rows beside them hold, jointly. Assumes nothing.
use Rattle.figures.specs.Figures.{Figures}
use Rattle.claims.proofs.Rows.{rows_hold}
use Rattle.claims.proofs.General.{general}
use Rattle.claims.proofs.Worked.{worked}
use Rattle.claims.proofs.Ties.{ties}
use Rattle.claims.proofs.Warm.{warm}
use Rattle.figures.proofs.Runs.{runs}
use Rattle.claims.proofs.Refusals.{refusals}
use Rattle.claims.proofs.Encodings.{encodings}

pub figures : Figures
figures = ((rows_hold, general), worked, ties, warm, runs, refusals, encodings)
