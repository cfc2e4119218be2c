-- `instance::partners` meets its contract: the loop has gathered the units that one of the first n pairs joins with unit i.
-- Assumes nothing.
use Rattle.std.proofs.Common.{◌-◌, ◌≤◌}
use Rattle.sums.proofs.LoopLaws.{Gathered}
use Rattle.model.specs.Pairs.{joins}
use Rattle.model.specs.Words.{problem_of}
use Rattle.instance.proofs.file.File.partners.Given as goal

abbrev pub invariant-loop-n : goal.invariant-loop-n
invariant-loop-n l = (l.n ≤ l.count) × Gathered (joins (problem_of l.self.words.now) l.i) l.n l.found

abbrev pub decreases-loop-n : goal.decreases-loop-n
decreases-loop-n l = l.count - l.n
