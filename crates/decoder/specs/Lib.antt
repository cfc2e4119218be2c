-- what the reader passes at one step
pub mod Stages
-- the enums of the calls
pub mod Answers
