-- `overhaul::starts_of` meets its contract: the tests for a permitted start are those for the range.
-- Assumes nothing.
use Rattle.std.proofs.Common.{rules}
use Rattle.overhaul.proofs.StartLaws.{starts_range, last_is, last_within}
use Rattle.overhaul.proofs.starts_of.Goals as goal

pub returns : goal.returns
returns c = record { ends = (search rules, search last_is); range = (search starts_range, search rules, search last_within) }
