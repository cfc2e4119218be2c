-- excluded pairs as formula (8) has them, and units that may be out together
pub mod PairLaws
-- larger sets, smaller limits; the rules that close a week
pub mod ClosedLaws
-- the bound with prices, and with none
pub mod BoundLaws
-- units placed, week by week, and the schedule of all of them
pub mod PlacedLaws
-- a problem with all costs 0, and prices that show that there is no schedule
pub mod FreeLaws
