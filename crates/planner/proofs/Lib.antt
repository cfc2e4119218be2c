-- one ask: what it is told, and what is remembered of it
pub mod CarryLaws
-- one ask after the others
pub mod TurnLaws
-- a run before the first ask, after one more, and after all
pub mod GoingLaws
-- a whole run by its verdict
pub mod RunLaws
-- what its functions ask and give
pub mod DueLaws
