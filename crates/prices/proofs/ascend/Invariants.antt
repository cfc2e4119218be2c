-- `prices::ascend` meets its contract: tables and pushes stay in range, and the memo right, from round to round.
-- Assumes nothing.
use Rattle.std.proofs.Common.{length, ◌≡◌, ◌≤◌}
use Rattle.instance.specs.File.{problem}
use Rattle.prices.specs.Ranges.{MOST_PUSH, MOST_ROUNDS, PricedFile, ProgressInRange}
use Rattle.memo.specs.Memo.{Right, Others}
use Rattle.sums.specs.Table.{AtMost}
use Rattle.prices.proofs.ascend.Given as goal

abbrev pub invariant-loop : goal.invariant-loop
invariant-loop l = record {
  rounds : l.most ≤ MOST_ROUNDS;
  progress : ProgressInRange l.s;
  tables : PricedFile l.file l.tables;
  push : AtMost MOST_PUSH l.push;
  best : PricedFile l.file l.best;
  right : Right (problem l.file) l.memo;
  others : Others l.initial.memo l.memo;
  long : length l.memo ≡ length l.initial.memo;
}
