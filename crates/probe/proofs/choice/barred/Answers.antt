use Rattle.probe.proofs.choice.barred.Goals as goal

pub returns : goal.returns
returns c = tt
