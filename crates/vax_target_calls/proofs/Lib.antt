-- Endings of names: _is what a call does. See docs/READING.md.
pub mod Services
pub mod Calling
pub mod Law
