-- the files of the rows
pub mod Files
-- rows: a file and a claim
pub mod Rows
-- the tests that are computed for them
pub mod Tests
-- what holds for every problem
pub mod General
-- ties, OFF costs, the worked run
pub mod Ties
pub mod Warm
pub mod Worked
-- what is due from the definitions for given inputs
pub mod Cases
pub mod FileRefusals
pub mod Refusals
pub mod Encodings
