use Rattle.std.proofs.Common.{refl, length-set, rules}
use Rattle.lent.proofs.SpliceLaws.{splice_start, splice_next}
use Rattle.block.proofs.BlockLaws.{block_ended}
use Rattle.block.proofs.put_at.Goals as goal

pub loop-q-init : goal.loop-q-init
loop-q-init c = (search rules, (search rules, (refl, search splice_start)))

pub loop-q-preserved : goal.loop-q-preserved
loop-q-preserved c = (search rules, (search rules, (search (rules, length-set), search splice_next)))

pub returns : goal.returns
returns c = search block_ended
