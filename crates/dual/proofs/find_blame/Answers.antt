-- `dual::find_blame` meets its contract: all units where the bound falls short, else those that keep it up.
-- Assumes nothing.
use Rattle.dual.proofs.BlameLaws.{blamed_all, blamed_some}
use Rattle.dual.proofs.find_blame.Goals as goal

pub returns-then-sum-most : goal.returns-then-sum-most
returns-then-sum-most c = search blamed_all

pub returns : goal.returns
returns c = search blamed_some
