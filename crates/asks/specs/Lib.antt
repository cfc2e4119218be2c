-- what a run that was not turned away has
pub mod Admitted
