-- `report::put_words` meets its contract: the words put so far, and one more.
-- Assumes nothing.
use Rattle.std.proofs.Common.{◌+◌, ◌-◌, ◌*◌, ◌≤◌, ◌≡◌, length}
use Rattle.report.specs.Put.{Put}
use Rattle.model.specs.Lines.{words_text}
use Rattle.report.proofs.put_words.Given as goal

abbrev pub invariant-loop-i : goal.invariant-loop-i
invariant-loop-i l = (l.i ≤ l.n) × ((l.at + 21 * l.n ≤ length l.initial.text) × ((l.place + l.n ≤ length l.answers) × ((length l.text ≡ length l.initial.text) × Put l.initial.text l.text l.at l.next (21 * l.i) (words_text l.answers l.place l.i))))

abbrev pub decreases-loop-i : goal.decreases-loop-i
decreases-loop-i l = l.n - l.i
