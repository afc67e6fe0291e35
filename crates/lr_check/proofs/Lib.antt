-- Endings of names: _is what this comes to, as an equation; _at what stands or holds at a number or a state. See docs/READING.md.
pub mod Orders
pub mod Numbered
pub mod Falling
pub mod Running
pub mod Covered
pub mod Parts
pub mod Chosen
pub mod Stepping
pub mod Choosing
pub mod Contained
pub mod Seen
pub mod Meaning
pub mod Law
pub mod Only
pub mod Typed
