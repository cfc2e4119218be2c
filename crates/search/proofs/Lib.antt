-- the answer of a walk that has ended
pub mod ReplyLaws
-- a whole ask
pub mod AskLaws
-- probes at gaps
pub mod GapLaws
-- what follows them, up to the last walk
pub mod ProbeLaws
