-- Endings of names: _by goes by the cases of a part that it is given; _is what a list or a frame word is; _at what holds at a symbol or a
-- right side. See docs/READING.md.
pub mod Symbols
pub mod Loaded
pub mod Carrying
pub mod Instances
pub mod Keeping
pub mod Parting
pub mod Saving
pub mod Desks
pub mod Law
