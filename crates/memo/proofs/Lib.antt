-- entries found and written, a memo without entries, and what of it a write leaves as it was
pub mod EntryLaws
-- the least cost without what the units out would cost OFF
pub mod NetLaws
