-- Endings of names: _is what this comes to, as an equation. See docs/READING.md.
pub mod Rows
pub mod Calls
pub mod Going
pub mod Slices
pub mod Blocks
