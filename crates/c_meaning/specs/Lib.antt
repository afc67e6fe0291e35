-- Endings of names: _of what a machine, a program, a variable or a place has; _at what is done at a loop, a place, an address or a depth
-- of tasks. See docs/READING.md.
pub mod State
pub mod Values
pub mod Blocks
pub mod Calls
pub mod Meaning
pub mod Programs
pub mod Turns
pub mod Parts
pub mod Pending
pub mod Work
pub mod FrameWork
pub mod Runner
