-- `instance::File::new` meets its contract: accepted words with the layout that they announce are all that the figures ask for.
-- Assumes nothing.
use Rattle.instance.proofs.FiledLaws.{filed}
use Rattle.instance.proofs.file.File.new.Goals as goal

pub invariant_of-result : goal.invariant_of-result
invariant_of-result c = record { filed = search filed }
