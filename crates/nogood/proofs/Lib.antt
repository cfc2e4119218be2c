-- the words of choices
pub mod ChoiceLaws
-- what noting a dead end and the end of a walk does, as the code goes
pub mod NotingLaws
-- a nogood read word by word
pub mod RecallLaws
-- a dead end and the end of a walk claim what is true
pub mod DeadEndLaws
-- a bound read in a table's words is a nogood's, and the choices behind it are its own
pub mod LookupLaws
-- what a table holds: emptied, with a nogood more, and what one of its nogoods says of a walk's starts
pub mod StockLaws
