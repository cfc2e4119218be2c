use Rattle.std.proofs.Common.{rules}
use Rattle.sums.proofs.TableLaws.{at_most_put}
use Rattle.states.proofs.PlaceLaws.{placed_next}
use Rattle.states.proofs.places.week_costs.Goals as goal

pub loop-i-preserved : goal.loop-i-preserved
loop-i-preserved c = record {
  caps = search (rules, placed_next);
  ons = search (rules, placed_next);
  offs = search (rules, placed_next);
  outs = search (rules, placed_next);
  clashes = search (rules, placed_next);
  most = record { caps = search at_most_put; ons = search at_most_put; offs = search at_most_put; outs = search at_most_put };
}
