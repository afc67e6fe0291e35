-- Endings of names: _of what a spelling stands for, or the kind of a line. See docs/READING.md.
pub mod Grammar
pub mod WrongLine
pub mod Answers
pub mod Fronts
pub mod Operands
pub mod Lines
pub mod Kinds
