-- the unit that is placed next
pub mod ChoiceLaws
-- the limit and the plan, the table and the tries; the measure
pub mod PlanLaws
-- the starts of a unit in turn
pub mod UnitLaws
-- a start judged, a plan weighed
pub mod JudgedLaws
-- a start given to a unit
pub mod OpenLaws
-- a unit's starts, as the code has them
pub mod CallLaws
-- a start tried
pub mod TryLaws
-- a probe from the root
pub mod RootLaws
