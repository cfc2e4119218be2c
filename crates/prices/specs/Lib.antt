-- what the tables of a round and its state keep to
pub mod Ranges
