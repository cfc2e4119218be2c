-- what a run remembers from one ask to the next
pub mod Carry
-- a run after some of its asks
pub mod Going
-- what its functions ask and give
pub mod Due
