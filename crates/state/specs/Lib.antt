-- small changes of a walk's state, and its beginning
pub mod State
