-- what the operations on a word do to the set it stands for
pub mod BitLaws
