-- `relaxation::child` meets its contract: each field by what made it.
-- Assumes nothing.
use Rattle.std.proofs.Common.{refl, rules}
use Rattle.relaxation.proofs.ShutLaws.{more_own}
use Rattle.relaxation.proofs.child.Goals as goal

pub returns : goal.returns
returns c =
    record {
      week = refl;
      out_is = refl;
      shut = search more_own;
      room = search rules;
      rest = search rules;
      value = search rules;
    }
