-- `tables::price` meets its contract: the word at the definition's place.
-- Assumes nothing.
use Rattle.tables.proofs.TableLaws.{price_at_lem, price_small}
use Rattle.tables.proofs.price.Goals as goal

pub returns : goal.returns
returns c = (search price_at_lem, search price_small)
