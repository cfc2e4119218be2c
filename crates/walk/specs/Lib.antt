-- the walk's state and how it changes
pub mod Walk
