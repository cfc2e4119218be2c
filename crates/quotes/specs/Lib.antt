-- what a question about a file is answered
pub mod Quotes
-- the answers of this crate's calls, case by case
pub mod Answers
