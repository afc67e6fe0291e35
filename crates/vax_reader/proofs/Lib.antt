-- Endings of names: _at what holds where a byte comes next. See docs/READING.md.
pub mod Choices
pub mod FrontLaws
pub mod NameLaws
pub mod OperandLaws
pub mod OpLaws
pub mod InstrLaws
pub mod LineLaws
pub mod KindLaws
pub mod TextLaws
