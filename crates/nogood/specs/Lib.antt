-- a dead end as a nogood, and the words that note it
pub mod Noting
-- a nogood of the table that a walk's starts meet
pub mod Recall
-- what a table holds
pub mod Stock
