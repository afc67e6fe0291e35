-- Endings of names: _is what this comes to, as an equation. See docs/READING.md.
pub mod Bytes
pub mod Words
pub mod Storing
pub mod Found
pub mod Parts
pub mod Scene
pub mod Lines
pub mod Saving
pub mod Owned
pub mod Reloading
pub mod Law
