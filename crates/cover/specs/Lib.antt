-- covers of a need by free units, the least of them, and the choice that finds it
pub mod Cover
-- the tables that the choice is cut by
pub mod Tables
