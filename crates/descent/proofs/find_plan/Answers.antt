-- `descent::find_plan` meets its contract: the plan that is known, or what a probe tells.
-- Assumes nothing.
use Rattle.descent.proofs.HeldLaws.{held_some, held_few, held_places, held_recalls, found_kept, found_told}
use Rattle.descent.proofs.find_plan.Goals as goal

pub keeps_last-requires : goal.keeps_last-requires
keeps_last-requires c = (search held_some, search held_few)

pub returns-then-keeps_last : goal.returns-then-keeps_last
returns-then-keeps_last c = record { answer = search found_kept; recalls = search held_recalls }

pub place-step-requires : goal.place-step-requires
place-step-requires c = search held_places

-- by name: what was asked stands behind more records than a search enters
pub returns : goal.returns
returns c = record {
  answer = found_told _ _ _ _ _ _ _ c.requires _ _ _ _ c.place-step.ensures.answer c.tell.ensures c.place-step.ensures.recalls;
  recalls = c.place-step.ensures.recalls;
}
