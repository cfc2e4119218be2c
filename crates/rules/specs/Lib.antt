-- what a grid says
pub mod Gridded
-- first and last weeks of maintenance
pub mod Spans
