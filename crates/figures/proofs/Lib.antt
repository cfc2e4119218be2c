-- runs of asks that meet demand 3, and runs that do not
pub mod Runs
-- the common theorem
pub mod Figures
