use Rattle.std.proofs.Common.{rules}
use Rattle.nogood.proofs.NotingLaws.{writing_start, writing_next, writing_place, writing_words}
use Rattle.nogood.proofs.write_choices.Goals as goal

pub loop-q-init : goal.loop-q-init
loop-q-init c = (search rules, search writing_start)

pub loop-q-preserved : goal.loop-q-preserved
loop-q-preserved c = (search rules, search writing_next)

pub returns : goal.returns
returns c = record { place = search writing_place; words = search writing_words }
