use Rattle.std.proofs.Common.{rules}
use Rattle.prices.proofs.RangeLaws.{priced_either, priced_chosen}
use Rattle.prices.specs.Ranges.{PLACES, LEVEL, MOST_PUSH}
use Rattle.memo.proofs.EntryLaws.{others_same, others_trans}
use Rattle.sums.proofs.TableLaws.{at_most_start}
use Rattle.prices.proofs.ascend.Goals as goal

pub loop-init : goal.loop-init
loop-init c = record {
  rounds = search rules;
  progress = search rules;
  tables = search rules;
  push = at_most_start PLACES LEVEL MOST_PUSH (search rules);
  best = search rules;
  right = search rules;
  others = search others_same;
  long = search rules;
}

pub run_round-requires : goal.run_round-requires
run_round-requires c = (c.loop.invariant.tables, c.loop.invariant.push, c.loop.invariant.progress, c.loop.invariant.right)

pub returns-in_default : goal.returns-in_default
returns-in_default c = record { answer = c.loop.invariant.best.priced; right = (search rules, search others_trans) }

pub keep_or_restart-s-requires : goal.keep_or_restart-s-requires
keep_or_restart-s-requires c = (c.in-Some.ensures.bound, c.loop.invariant.progress, c.run_round.ensures.ranges.1)

pub returns-then-s-lt-LEAST_REACH : goal.returns-then-s-lt-LEAST_REACH
returns-then-s-lt-LEAST_REACH c = record { answer = search priced_chosen; right = (search rules, search others_trans) }

pub loop-preserved : goal.loop-preserved
loop-preserved c = record {
  rounds = search rules;
  progress = search rules;
  tables = search priced_either;
  push = search rules;
  best = search priced_either;
  right = search rules;
  others = search others_trans;
  long = search rules;
}

pub returns-after-loop : goal.returns-after-loop
returns-after-loop c = record { answer = c.loop.invariant.best.priced; right = (c.loop.invariant.right, c.loop.invariant.others) }
