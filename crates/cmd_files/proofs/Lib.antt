-- Endings of names: _is that what is told of a file or an input is true of its bytes. See docs/READING.md.
pub mod Refusals
pub mod Leaving
pub mod Exactly
pub mod Translating
pub mod Bytes
