-- the program's answers, case by case
pub mod Answers
-- its input with buffers of any size
pub mod Buffers
