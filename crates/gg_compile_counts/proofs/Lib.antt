-- Endings of names: _by goes by the cases of a part that it is given. See docs/READING.md.
pub mod Lowerings
pub mod Expressions
pub mod Labels
pub mod Operators
pub mod Phrases
pub mod Statements
pub mod Stores
pub mod Law
