-- `instance::partner_added` meets its contract: a pair that has unit i adds its other unit, and no other pair adds any.
-- Assumes nothing.
use Rattle.instance.proofs.PartnerLaws.{added_second, added_first, added_none}
use Rattle.instance.proofs.file.File.partner_added.Goals as goal

pub returns-then-a-i : goal.returns-then-a-i
returns-then-a-i c = search added_second

pub returns-then-b-i : goal.returns-then-b-i
returns-then-b-i c = search added_first

pub returns : goal.returns
returns c = search added_none
