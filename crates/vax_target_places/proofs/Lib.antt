-- Endings of names: _to that what goes to a symbol's home goes to that of a place. See docs/READING.md.
pub mod Homes
pub mod Lines
pub mod Law
