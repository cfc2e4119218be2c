-- words written into a lent list
pub mod Splice
