-- the figure step by step, and the answer
pub mod SizingLaws
