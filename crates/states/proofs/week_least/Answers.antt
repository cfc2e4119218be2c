-- `states::week_least` meets its contract: the lower bound of the places is one of the week.
-- Assumes nothing.
use Rattle.std.proofs.Common.{rules}
use Rattle.states.proofs.WeekLaws.{week_answer, week_less, best_fits}
use Rattle.states.proofs.week_least.Goals as goal

pub search-found-requires : goal.search-found-requires
search-found-requires c = (search rules, search rules, search rules, search rules)

pub unscaled-requires : goal.unscaled-requires
unscaled-requires c = search best_fits

pub returns : goal.returns
returns c = record { answer = search week_answer; less = search week_less }
