-- covers, and the choice among them
pub mod CoverLaws
-- the tables and cuts
pub mod TableLaws
