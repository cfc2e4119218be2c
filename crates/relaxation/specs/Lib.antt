-- prices in a table, and what a week is worth at them
pub mod Relaxed
-- the choice of further units out
pub mod Choosing
