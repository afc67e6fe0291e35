-- Endings of names: _by goes by the cases of a part that it is given; _is what this is, or is worth; _so a fact that its neighbours cite.
-- See docs/READING.md.
pub mod Binds
pub mod Codes
pub mod Tables
pub mod Holes
pub mod Forms
pub mod Worths
