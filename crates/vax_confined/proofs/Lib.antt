-- Endings of names: _by goes by the cases of a part that it is given. See docs/READING.md.
pub mod Joining
pub mod Running
pub mod Touching
