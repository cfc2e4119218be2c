-- what every set that may be out comes to at least
pub mod FloorLaws
-- a node of the search over these sets
pub mod NodeLaws
-- the sums over the units of a week
pub mod SumsLaws
-- an overhaul of the free plant
pub mod UnitLaws
-- the test at given prices
pub mod TestLaws
