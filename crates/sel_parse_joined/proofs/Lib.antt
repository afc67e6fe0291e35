-- Endings of names: _in what is in an entry, or that a place is in a list or an environment. See docs/READING.md.
pub mod Turning
pub mod Holding
pub mod Spilling
pub mod Reducing
pub mod Law
