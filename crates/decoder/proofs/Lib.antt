-- the numbers of faults
pub mod FaultLaws
-- the arms of the match over kinds: the next stage
pub mod StageLaws
-- the reader's steps
pub mod StepLaws
-- bytes to words
pub mod BytesLaws
