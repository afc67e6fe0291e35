-- Endings of names: _told what is told of where an operand stands. See docs/READING.md.
pub mod Own
pub mod Shapes
pub mod Law
