-- a week's run and an overhaul, case by case
pub mod QuoteLaws
-- the costs of a list of queries
pub mod CostLaws
-- how large the numbers and costs of quotes are
pub mod BoundLaws
