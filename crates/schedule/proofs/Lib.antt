-- a schedule laid out byte by byte
pub mod DrawLaws
