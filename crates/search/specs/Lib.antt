-- probes, the descent and the last walk
pub mod Walks
-- what one ask is told
pub mod Ask
