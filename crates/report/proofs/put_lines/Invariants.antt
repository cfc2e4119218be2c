-- `report::put_lines` meets its contract: the lines put so far, and one more.
-- Assumes nothing.
use Rattle.std.proofs.Common.{◌-◌, ◌*◌, ◌≤◌, ◌≡◌, length}
use Rattle.report.specs.Lengths.{LINE, TEXT}
use Rattle.report.specs.Put.{Put, Listed}
use Rattle.model.specs.Lines.{lines_text}
use Rattle.report.proofs.put_lines.Given as goal

abbrev pub invariant-loop-k : goal.invariant-loop-k
invariant-loop-k l = (l.k ≤ l.asks) × (Listed (length l.answers) l.asks l.u l.w × ((TEXT ≤ length l.initial.text) × ((length l.text ≡ length l.initial.text) × Put l.initial.text l.text 0 l.next (LINE * l.k) (lines_text l.answers l.k l.u l.w))))

abbrev pub decreases-loop-k : goal.decreases-loop-k
decreases-loop-k l = l.asks - l.k
