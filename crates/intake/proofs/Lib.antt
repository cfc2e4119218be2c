-- a program's input, step by step
pub mod IntakeLaws
-- the text printed for an input
pub mod TextLaws
-- the program's own buffers, and the text printed with them
pub mod ProgramLaws
