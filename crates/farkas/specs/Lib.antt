-- who may be out in a week of the free plant
pub mod Choices
-- what overhauls and weeks come to
pub mod Sums
