-- the number of the sets of 16 units
pub mod Sets
