-- text put into lent bytes, one piece after another
pub mod PutLaws
-- the parts of a line
pub mod LineLaws
