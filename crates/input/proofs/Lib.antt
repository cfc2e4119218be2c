-- the search for the end word, and the front of a list of words
pub mod InputLaws
-- bytes loaded into words
pub mod LoadedLaws
