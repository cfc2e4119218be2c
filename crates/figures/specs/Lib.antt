-- runs of asks
pub mod Runs
-- the common theorem's statement
pub mod Figures
