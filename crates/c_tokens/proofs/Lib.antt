-- Endings of names: _is that what was read is so written. See docs/READING.md.
pub mod Strings
pub mod Passing
pub mod RunLaws
pub mod NumberLaws
pub mod EscapeLaws
pub mod TableLaws
pub mod StringLaws
pub mod PieceLaws
pub mod AgainLaws
pub mod TextLaws
pub mod Law
pub mod NameParts
