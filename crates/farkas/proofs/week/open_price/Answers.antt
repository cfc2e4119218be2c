-- `farkas::week::open_price` meets its contract.
-- Assumes nothing.
use Rattle.farkas.proofs.SumsLaws.{price_never, price_open}
use Rattle.farkas.proofs.week.open_price.Goals as goal

pub returns-then-has : goal.returns-then-has
returns-then-has c = search price_never

pub returns : goal.returns
returns c = search price_open
