-- Endings of names: _of what the definition has for a value of the code. See docs/READING.md.
pub mod Answers
pub mod Views
pub mod Meaning
pub mod Lines
pub mod Found
pub mod Stages
