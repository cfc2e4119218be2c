-- `input::front` meets its contract: cut at n words, or at all of fewer.
-- Assumes nothing.
use Rattle.input.proofs.InputLaws.{front_length, front_is}
use Rattle.input.proofs.front.Goals as goal

pub slice_bounds-result-end : goal.slice_bounds-result-end
slice_bounds-result-end c = search front_length

pub returns : goal.returns
returns c = search front_is
