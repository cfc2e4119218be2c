-- the formulas at one week, unit or pair, by the branch that the code takes
pub mod CellLaws
-- laws of the first and the last week of maintenance, and of formulas (4) to (6) in terms of the two
pub mod SpanLaws
-- formula (8) pair by pair
pub mod PairLaws
-- the eight formulas in turn
pub mod ChainLaws
