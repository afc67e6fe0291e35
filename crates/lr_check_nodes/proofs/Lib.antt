-- Endings of names: _at what stands at a number. See docs/READING.md.
mod Marking
mod Renumbering
pub mod Wholes
