-- what the computed tests say of a problem, a schedule, and all sound schedules
pub mod TestLaws
-- each kind of claim follows from its computed test
pub mod ClaimLaws
-- runs of asks: they follow from their computed tests, or are refused by them
pub mod RunLaws
-- every row whose test is true holds
pub mod RowLaws
-- the worked figures P1 to P11 hold
pub mod Rows
-- what holds for every problem
pub mod General
-- ties are decided by numbers and starts
pub mod Ties
-- OFF costs count
pub mod Warm
-- the worked run meets demand 3
pub mod Worked
-- inputs and what is due for them hold by one computation
pub mod CaseLaws
-- every refusal, and the order of tests
pub mod Refusals
-- words, bytes and lines
pub mod Encodings
