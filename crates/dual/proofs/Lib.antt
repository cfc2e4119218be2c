-- the lower bound: a unit placed, a week worth more, a unit dropped
pub mod BoundsLaws
-- what overhauls cost at prices
pub mod CostLaws
-- what weeks are worth with nobody out
pub mod RootLaws
-- who is to blame
pub mod BlameLaws
