-- Endings of names: _by goes by the cases of a part that it is given; _of what a stack or an outcome has, or the later of two places; _at
-- what stands or is done at a place or a number. See docs/READING.md.
pub mod Entries
pub mod Desk
pub mod Spills
pub mod Reductions
pub mod Selected
pub mod Examples
pub mod Rows
pub mod Claims
