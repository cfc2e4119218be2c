-- what turns a run away after its file
pub mod RefusalLaws
-- the verdict on a run of any words, and what has passed it
pub mod VerdictLaws
