-- the parts of the table, read and written
pub mod TableLaws
