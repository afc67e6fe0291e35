-- Endings of names: _is what this is, as an equation or by its cases. See docs/READING.md.
pub mod Rows
pub mod Law
