-- the table and the state after a dead end and after the end of a walk
pub mod TableLaws
