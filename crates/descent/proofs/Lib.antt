-- the descent from unit to unit, and its end
pub mod DescentLaws
-- a start that holds
pub mod HeldLaws
-- the starts of a unit, as the code has them
pub mod CallLaws
-- the whole descent
pub mod RootLaws
