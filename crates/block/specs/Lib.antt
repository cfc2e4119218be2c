-- the words of a reply's block
pub mod Block
