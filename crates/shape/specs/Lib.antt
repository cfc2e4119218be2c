-- the places of a block's parts, and its size
pub mod Shape
