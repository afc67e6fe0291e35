-- Endings of names: _is what a list is as others put together. See docs/READING.md.
pub mod Bytes
