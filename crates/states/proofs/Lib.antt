-- lower bounds of choices
pub mod ChoiceLaws
-- numbers in their ranges
pub mod RangeLaws
-- what the table of sums says of a node
pub mod TableLaws
-- what comes of a place's states
pub mod StepLaws
-- places counted
pub mod CountLaws
-- the table of costs
pub mod PlaceLaws
-- the table of sums
pub mod TotalLaws
-- from a week's places to the week
pub mod WeekLaws
