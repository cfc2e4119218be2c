-- `search::gaps::probe_gap` meets its contract: by how the probe ended.
-- Assumes nothing.
use Rattle.search.proofs.GapLaws.{turn_fits, vain_asks, gap_due, gap_found, gap_vain}
use Rattle.search.proofs.gaps.probe_gap.Goals as goal

pub probe_at-probe-requires : goal.probe_at-probe-requires
probe_at-probe-requires c = search turn_fits

pub from_root-step-requires : goal.from_root-step-requires
from_root-step-requires c = search gap_due

pub vain_turn-requires : goal.vain_turn-requires
vain_turn-requires c = search vain_asks

-- by name: what was asked stands behind more records than a search enters
pub returns-in-Plan : goal.returns-in-Plan
returns-in-Plan c = search (gap_found, c.requires, c.from_root-step.ensures.answer, c.from_root-step.ensures.recalls, c.outcome_of.ensures)

-- by name: what was asked stands behind more records than a search enters
pub returns-in-NoPlan : goal.returns-in-NoPlan
returns-in-NoPlan c = search (gap_vain, c.requires, c.from_root-step.ensures.answer, c.from_root-step.ensures.recalls)
