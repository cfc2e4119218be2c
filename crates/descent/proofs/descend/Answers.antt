-- `descent::descend` meets its contract: no unit is placed at first, and at the end the plan is the earliest.
-- Assumes nothing.
use Rattle.std.proofs.Common.{rules}
use Rattle.descent.proofs.RootLaws.{descent_root, descent_out, descent_begins, descent_ends}
use Rattle.descent.proofs.descend.Goals as goal

pub root-v-requires : goal.root-v-requires
root-v-requires c = search descent_root

-- by name: what was asked stands behind more records than a search enters
pub lower-requires : goal.lower-requires
lower-requires c =
    descent_begins _ _ _ _ _ c.requires _ c.add-limit.ensures _ c.limited-s.ensures _ _ _ _ _ c.root-v.ensures c.in-Ok.is
    c.no_rows-rows.ensures c.first_values-values.ensures c.root_visit-at.ensures

pub returns-in-Err : goal.returns-in-Err
returns-in-Err c = record { answer = search descent_out; recalls = search rules }

-- by name: what was asked stands behind more records than a search enters
pub returns-in-Ok : goal.returns-in-Ok
returns-in-Ok c = record {
  answer = descent_ends _ _ _ _ _ c.requires _ c.add-limit.ensures _ c.limited-s.ensures _ _ _ _ c.root_visit-at.ensures c.lower.ensures.answer;
  recalls = c.lower.ensures.recalls;
}
