-- words of sets and tallies, rows of them
pub mod RowLaws
-- one week of an overhaul, by who is out in it
pub mod WeekLaws
-- all its weeks
pub mod TestLaws
-- the bound with a start, weighed against the limit
pub mod JudgeLaws
-- the bound before any unit is placed
pub mod RootedLaws
-- a unit without a permitted start
pub mod StartlessLaws
-- the runs of a schedule
pub mod RunLaws
-- what a schedule costs
pub mod LeafLaws
