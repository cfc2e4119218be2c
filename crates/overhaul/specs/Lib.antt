-- the permitted starts of a unit as a range
pub mod Range
-- what a unit costs OFF over the season
pub mod Off
