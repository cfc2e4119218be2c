use Rattle.std.proofs.Common.{refl, rules}
use Rattle.sums.proofs.LoopLaws.{all_start, all_next, all_ended, all_broken}
use Rattle.model.specs.Rules.{keeps1}
use Rattle.rules.proofs.weekly.keeps1.Goals as goal

pub demand-init : goal.demand-init
demand-init c = (refl, search rules, search all_start)

pub demand-preserved : goal.demand-preserved
demand-preserved c = (search rules, search rules, search all_next)

pub returns-after-demand : goal.returns-after-demand
unfolding keeps1
returns-after-demand c = search all_ended

pub returns-then-not-demand_met : goal.returns-then-not-demand_met
unfolding keeps1
returns-then-not-demand_met c = search all_broken
