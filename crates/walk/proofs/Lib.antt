-- places passed: how many starts lie below one, and the measure of the recursion
pub mod PlaceLaws
-- one state after another
pub mod StateLaws
-- a dead end noted
pub mod NotedLaws
-- a start judged
pub mod JudgedLaws
-- a start tried
pub mod TryLaws
-- the starts of a unit in turn
pub mod UnitLaws
-- what the two functions of the walk ask and give
pub mod CallLaws
