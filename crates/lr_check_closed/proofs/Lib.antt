-- Endings of names: _is that a row, or what it holds, is so; _at at a state and a token; _of of what is given. See docs/READING.md.
pub mod Placed
pub mod Following
pub mod Showing
pub mod Ending
