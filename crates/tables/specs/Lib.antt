-- the parts of the table
pub mod Tables
