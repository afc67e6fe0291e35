-- Endings of names: _is what this comes to, as an equation. See docs/READING.md.
pub mod AreaBytes
pub mod Facts
