-- answers as numbers
pub mod CodeLaws
