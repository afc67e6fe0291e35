-- Endings of names: _so a fact that its neighbours cite; _is what this is, or is worth. See docs/READING.md.
pub mod Naming
pub mod Valued
pub mod Law
pub mod Homes
