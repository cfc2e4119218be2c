-- `cover::free_surplus` meets its contract: each way is one case of the definition.
-- Assumes nothing.
use Rattle.std.proofs.Common.{rules}
use Rattle.cover.proofs.TableLaws.{rate_fits, away_out, away_surplus}
use Rattle.cover.proofs.free_surplus.Goals as goal

pub returns-then-has : goal.returns-then-has
returns-then-has c = search away_out

pub overflow_mul-rate : goal.overflow_mul-rate
overflow_mul-rate c = search (rules, rate_fits)

pub returns : goal.returns
returns c = search away_surplus
