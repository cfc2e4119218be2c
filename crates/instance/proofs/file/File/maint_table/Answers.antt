-- `instance::maint_table` meets its contract: the part between two sections is the table.
-- Assumes nothing.
use Rattle.instance.proofs.TableLaws.{maints_part}
use Rattle.instance.proofs.file.File.maint_table.Goals as goal

pub returns : goal.returns
returns c = search maints_part
