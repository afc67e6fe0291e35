-- Endings of names: _of what holds of a part or of two operands, or the leaf of a token. See docs/READING.md.
pub mod Worths
pub mod Tokens
pub mod Patterns
pub mod Rules
pub mod Statements
pub mod Law
