-- Endings of names: _of what a text writes, begins with or ends at, or a digit of a base; _from goes on from a number or an offset. See
-- docs/READING.md.
pub mod Letters
pub mod Words
pub mod Marks
pub mod Numbers
pub mod Escapes
pub mod Pieces
pub mod Reading
pub mod Places
pub mod Grammar
pub mod Wrong
pub mod Answer
