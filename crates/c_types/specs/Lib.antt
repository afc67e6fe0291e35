-- Endings of names: _of what an expression, a type, a place or an option has. See docs/READING.md.
pub mod Types
pub mod Typed
pub mod Answers
pub mod Constants
