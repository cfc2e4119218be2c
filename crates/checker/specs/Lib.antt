-- the judge's answer, case by case
pub mod Answers
-- what judging asks
pub mod Stated
