-- what a week is worth, and a memo of it
pub mod ValueLaws
-- sets of units out: prices of the others, and who may be out together
mod OutLaws
-- what a week is worth at least, one further unit at a time
mod FloorLaws
-- the table of prices left
mod LeftLaws
-- the room that crews leave, and the units that need no try
mod ShutLaws
-- what is known of a set of units out
mod NodeLaws
