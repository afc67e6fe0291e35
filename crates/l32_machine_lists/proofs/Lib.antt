-- Endings of names: _there with the machine set somewhere else. See docs/READING.md.
pub mod Placed
pub mod Joining
pub mod Passing
