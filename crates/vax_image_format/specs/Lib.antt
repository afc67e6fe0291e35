-- Endings of names: _bytes what stands in a section, _refs the refs to it, _marks the marks of it.
pub mod Opcodes
pub mod Specifiers
pub mod Instructions
pub mod Sections
pub mod Image
pub mod Rows
pub mod Places
