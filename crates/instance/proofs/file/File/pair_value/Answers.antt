-- `instance::pair_value` meets its contract: the pair stands before the end word.
-- Assumes nothing.
use Rattle.std.proofs.Common.{rules}
use Rattle.model.specs.Words.{value_at}
use Rattle.instance.proofs.PlaceLaws.{pair_below, pair_place_fits}
use Rattle.instance.proofs.file.File.pair_value.Goals as goal

pub overflow_add-q : goal.overflow_add-q
overflow_add-q c = search pair_place_fits

pub offset_bounds-self-q : goal.offset_bounds-self-q
offset_bounds-self-q c = search (rules, pair_below)

pub bounds-self-q : goal.bounds-self-q
bounds-self-q c = search pair_below

pub returns : goal.returns
unfolding value_at
returns c = search rules
