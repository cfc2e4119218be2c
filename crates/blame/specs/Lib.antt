-- what it is for units' starts to leave no schedule below a limit
pub mod Closed
-- the units placed, what they cost so far, and the schedule they stand for
pub mod Placed
-- lower bounds with prices
pub mod Priced
-- the problem with all costs 0
pub mod Free
