-- choices of a state for each place, and what they cost at least
pub mod Choices
-- the tables that the search reads
pub mod SearchTables
-- the places of a week at prices
pub mod Weeks
