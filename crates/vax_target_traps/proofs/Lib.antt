-- Endings of names: _so a fact that its neighbours cite. See docs/READING.md.
pub mod Plain
pub mod Law
