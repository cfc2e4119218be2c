-- the block of a reply, word by word
pub mod BlockLaws
-- those words are the block of the reply's answer
pub mod ListedLaws
