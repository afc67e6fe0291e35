-- Endings of names: _of what the definition has for a value of the code. See docs/READING.md.
pub mod Answers
pub mod Taking
pub mod Computing
pub mod Views
pub mod Outcomes
pub mod Stepping
pub mod Pieces
