-- Endings of names: _is what this comes to, as an equation. See docs/READING.md.
pub mod Changing
pub mod Pushing
pub mod Onto
pub mod Falls
pub mod Straight
