-- `rules::spans::keeps8` meets its contract: every pair so far keeps the formula, and a breach breaks it for good.
-- Assumes nothing.
use Rattle.std.proofs.Common.{◌-◌, ◌≤◌, ◌<◌, ◌≡◌, true}
use Rattle.instance.specs.File.{problem}
use Rattle.rules.specs.Gridded.{states}
use Rattle.rules.specs.Spans.{FirstOut, EndOut}
use Rattle.rules.proofs.PairLaws.{PairsKept, WeeksKept}
use Rattle.rules.proofs.spans.keeps8.Given as goal

abbrev pub invariant-loop-t : goal.invariant-loop-t
invariant-loop-t l =
    (l.ok ≡ true) × (l.from ≤ l.t) × (l.n < l.pairs) × PairsKept (problem l.grid.file) (states l.grid) l.n
    × WeeksKept (problem l.grid.file) (states l.grid) l.n l.from l.t

abbrev pub decreases-loop-t : goal.decreases-loop-t
decreases-loop-t l = l.to - l.t

abbrev pub invariant-apart : goal.invariant-apart
invariant-apart l =
    (l.ok ≡ true) × (l.n ≤ l.pairs) × FirstOut l.grid.file.layout.weeks (states l.grid) l.span.unit l.span.first
    × EndOut l.grid.file.layout.weeks (states l.grid) l.span.unit l.span.end × PairsKept (problem l.grid.file) (states l.grid) l.n

abbrev pub decreases-apart : goal.decreases-apart
decreases-apart l = l.pairs - l.n
