-- Endings of names: _of what live calls have, or what an ending has. See docs/READING.md.
pub mod Live
pub mod Trees
pub mod Passing
pub mod Plain
