use Rattle.probe.proofs.choice.narrowest.Goals as goal

pub returns-then-best-eq0 : goal.returns-then-best-eq0
returns-then-best-eq0 c = tt

pub returns : goal.returns
returns c = tt
