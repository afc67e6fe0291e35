-- Endings of names: _of what the definition has for a value of the code, or what belongs to a side. See docs/READING.md.
pub mod Sides
pub mod Marked
