use Rattle.probe.proofs.choice.needed.Goals as goal

pub returns : goal.returns
returns c = tt
