-- Endings of names: _of what the definition has for a value of the code, or the term of a sum. See docs/READING.md.
pub mod Answers
pub mod Views
pub mod Stages
