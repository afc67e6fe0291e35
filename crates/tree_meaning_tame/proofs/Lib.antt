-- Endings of names: _at what holds at a sort, a leaf or a number. See docs/READING.md.
pub mod Strict
pub mod Calm
pub mod Sights
pub mod Named
pub mod Law
pub mod Sorts
