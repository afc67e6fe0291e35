-- Endings of names: _by goes by the cases of a part that it is given; _at what holds at a place. See docs/READING.md.
pub mod Placed
pub mod Steps
pub mod Joining
pub mod Longwords
pub mod Registers
pub mod Numbers
pub mod Soundness
pub mod Beginning
