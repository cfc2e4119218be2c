-- an accepted file is what the accessors ask for
pub mod FiledLaws
-- places of cells and pairs
pub mod PlaceLaws
-- the word at a section's place is the problem's figure
pub mod FigureLaws
-- the tables of costs: their parts of the words, their lengths, a week's row
pub mod TableLaws
-- the partners of a unit, a pair at a time
pub mod PartnerLaws
-- sums over the units of a run
pub mod RunLaws
pub mod OffLaws
