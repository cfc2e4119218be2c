-- tallies as words, a row of them for each week
pub mod Rows
-- what the tests of a start say
pub mod Tests
