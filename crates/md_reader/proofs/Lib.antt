-- Endings of names: _is what a line, or a part of one, is that was read; _at what holds at a class's number or at a stage. See
-- docs/READING.md.
pub mod PatternLaws
pub mod Inversion
pub mod FormLaws
pub mod ValidLaws
pub mod ToldLaws
pub mod FirstLaws
pub mod AgainLaws
pub mod RowLaws
