-- words set to 0 one after the other
pub mod EmptyLaws
-- words written from a place on
pub mod SpliceLaws
