-- Endings of names: _by goes by the cases of a part that it is given; _of is what belongs to the codes or the items that are given;
-- _same says that two ways give the same. See docs/READING.md.
mod Turns
pub mod Thinning
pub mod Suffixes
pub mod Plain
pub mod DeadTails
pub mod NextJumps
pub mod Jumping
pub mod Tailing
pub mod Fronting
