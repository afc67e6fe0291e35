-- Endings of names: _of the phrase that is made of a number, of places or of items; _at the offset at which this stands. See
-- docs/READING.md.
pub mod Functions
pub mod Main
pub mod Unit
