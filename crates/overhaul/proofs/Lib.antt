-- the permitted starts as a range
pub mod StartLaws
-- a sum over the weeks of an overhaul as a sum over its duration
pub mod SpanLaws
-- an overhaul's maintenance cost, a week at a time
pub mod UpkeepLaws
-- what a unit costs OFF, a week at a time
pub mod OffLaws
