use Rattle.std.proofs.Common.{rules}
use Rattle.prices.specs.Ranges.{PLACES, LEVEL, MOST_PUSH}
use Rattle.sums.proofs.TableLaws.{at_most_start}
use Rattle.farkas.proofs.TestLaws.{none_yes, none_no}
use Rattle.farkas.proofs.rounds.rounds_none.Goals as goal

pub returns-then-shows_none : goal.returns-then-shows_none
returns-then-shows_none c = search none_yes

pub loop-n-init : goal.loop-n-init
loop-n-init c = (search rules, search rules, at_most_start PLACES LEVEL MOST_PUSH (search rules))

pub returns-then-run_round : goal.returns-then-run_round
returns-then-run_round c = search none_yes

pub loop-n-preserved : goal.loop-n-preserved
loop-n-preserved c = (search rules, search rules, search rules)

pub returns : goal.returns
returns c = search none_no
