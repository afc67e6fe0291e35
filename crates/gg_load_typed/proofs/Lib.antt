-- Endings of names: _at behind so many functions, or at a number. See docs/READING.md.
pub mod Names
pub mod Computing
pub mod Functions
pub mod Mains
pub mod Heads
pub mod Texts
