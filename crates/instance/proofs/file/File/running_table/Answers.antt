-- `instance::running_table` meets its contract: the part between two sections is the table.
-- Assumes nothing.
use Rattle.instance.proofs.TableLaws.{runnings_part}
use Rattle.instance.proofs.file.File.running_table.Goals as goal

pub returns : goal.returns
returns c = search runnings_part
