-- the table with all its parts, and the lower bound of the starts of some units
pub mod Dual
-- how the table comes to its parts
pub mod Made
-- who is to blame
pub mod Blame
