-- `block::put_at` meets its contract: the words written so far are the first of the block, all others are as they were.
-- Assumes nothing.
use Rattle.std.proofs.Common.{◌+◌, ◌-◌, ◌≤◌, ◌≡◌, length}
use Rattle.sums.specs.Range.{list_to}
use Rattle.lent.specs.Splice.{spliced}
use Rattle.block.specs.Block.{block_word}
use Rattle.block.proofs.put_at.Given as goal

abbrev pub invariant-loop-q : goal.invariant-loop-q
invariant-loop-q l = (l.q ≤ l.size) × ((l.at + l.size ≤ length l.initial.answers) × ((length l.answers ≡ length l.initial.answers)
    × (l.answers ≡ spliced l.at (list_to l.q (block_word l.l.units l.l.weeks l.reply)) l.initial.answers)))

abbrev pub decreases-loop-q : goal.decreases-loop-q
decreases-loop-q l = l.size - l.q
