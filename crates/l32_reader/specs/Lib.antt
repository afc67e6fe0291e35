-- Endings of names: _of what a spelling stands for, or the kind of a line; _by by a part that is given. See docs/READING.md.
pub mod Grammar
pub mod WrongLine
pub mod Answers
pub mod Operands
pub mod Lines
pub mod Kinds
