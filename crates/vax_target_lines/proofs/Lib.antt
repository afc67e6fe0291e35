-- Endings of names: _so a fact that its neighbours cite; _is what this comes to, mostly where it is no refusal; _by goes by the cases, or
-- the facts, of a part that it is given. See docs/READING.md.
pub mod Takings
pub mod Short
pub mod Rows
pub mod Performing
