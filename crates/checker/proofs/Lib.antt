-- a cell's cost from the row that its state names, and the sums
pub mod CostLaws
-- the judge step by step
pub mod JudgingLaws
-- the judge's program
pub mod ProgramLaws
-- the line printed for an input
pub mod TextLaws
