use Rattle.std.proofs.Common.{refl, rules}
use Rattle.report.proofs.PutLaws.{words_start, words_room, words_next, words_ended}
use Rattle.report.proofs.put_words.Goals as goal

pub loop-i-init : goal.loop-i-init
loop-i-init c = (search rules, (search rules, (search rules, (refl, search words_start))))

pub put_number-next-requires : goal.put_number-next-requires
put_number-next-requires c = search words_room

pub loop-i-preserved : goal.loop-i-preserved
loop-i-preserved c = (search rules, (search rules, (search rules, (search rules, search words_next))))

pub returns : goal.returns
returns c = search words_ended
