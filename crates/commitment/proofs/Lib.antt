-- the thrifty units and the least cover by the others have the least score
pub mod ChoiceLaws
-- the thrifty units as the code finds them
pub mod ThriftyLaws
-- what a run costs with all other units OFF
pub mod LineLaws
-- a table filled place by place
pub mod ColumnLaws
-- the least score and the cheapest run
pub mod ScoreLaws
-- the tally with one unit more
pub mod TallyLaws
