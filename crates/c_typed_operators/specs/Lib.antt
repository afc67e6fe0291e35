-- Endings of names: _by goes by a type that may be missing, or by the operator; _of what an operator, a condition or a cast makes of its
-- operands; _at goes by the types of the operands, or by a test of them. See docs/READING.md.
pub mod Rules
pub mod Prefixes
pub mod Choices
pub mod Stores
pub mod Table
