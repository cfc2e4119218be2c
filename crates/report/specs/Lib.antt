-- text put into lent bytes
pub mod Put
-- the lengths of its parts
pub mod Lengths
-- parts of a line
pub mod Parts
