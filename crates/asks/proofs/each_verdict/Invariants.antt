-- `asks::each_verdict` meets its contract: the verdict on all words is that from the word at hand on.
-- Assumes nothing.
use Rattle.std.proofs.Common.{◌-◌, length}
use Rattle.model.specs.Refusal.{ask_fault}
use Rattle.model.proofs.VerdictLaws.{Onward}
use Rattle.asks.proofs.each_verdict.Given as goal

abbrev pub invariant-loop-q : goal.invariant-loop-q
invariant-loop-q l = Onward (ask_fault l.asks) (length l.asks) l.q

abbrev pub decreases-loop-q : goal.decreases-loop-q
decreases-loop-q l = length l.asks - l.q
