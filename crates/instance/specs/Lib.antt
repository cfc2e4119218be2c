-- what is true of an accepted file
pub mod Filed
-- the problem that an accepted file means
pub mod File
-- the cost tables, and a week's row
pub mod Tables
