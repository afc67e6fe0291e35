-- Endings of names: _of what a size, a memory, a turn or a finish has. See docs/READING.md.
pub mod Sizes
pub mod LittleEndian
pub mod Relations
pub mod Arithmetic
pub mod Numbers
pub mod Fronts
pub mod Runs
pub mod Turns
pub mod Lasting
pub mod Follows
pub mod Names
