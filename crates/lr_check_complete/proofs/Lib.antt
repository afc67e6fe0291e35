-- Endings of names: _is what a part of what was found is; _at what holds at a place or a number; _in that what follows of this is in what
-- was found. See docs/READING.md.
pub mod Turns
pub mod Kids_found
pub mod Gaining
pub mod Both
pub mod Following
pub mod Framing
pub mod Marking
pub mod Reducing
pub mod Showing
pub mod Complete_sets
