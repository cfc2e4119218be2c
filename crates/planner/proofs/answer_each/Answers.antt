use Rattle.std.proofs.Common.{rules, refl}
use Rattle.planner.proofs.DueLaws.{runs_start, runs_reply, runs_put, runs_next, runs_ended}
use Rattle.planner.proofs.answer_each.Goals as goal

pub loop-k-init : goal.loop-k-init
loop-k-init c = (search rules, refl, search runs_start, refl, refl, refl)

pub reply-told-requires : goal.reply-told-requires
reply-told-requires c = search runs_reply

pub put_turn-carry-requires : goal.put_turn-carry-requires
put_turn-carry-requires c = search runs_put

pub loop-k-preserved : goal.loop-k-preserved
loop-k-preserved c = (search rules, search rules, search runs_next, search rules, search rules, search rules)

pub returns-clause-answered : goal.returns-clause-answered
returns-clause-answered c = search runs_ended
