-- a week's tally of the units out
pub mod Tally
-- a run's score, and the least of them
pub mod Score
-- what an answer says of a week
pub mod Answers
