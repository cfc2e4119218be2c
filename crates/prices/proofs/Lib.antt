-- what the table, pushes and steps keep to
pub mod RangeLaws
