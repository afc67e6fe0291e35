-- Endings of names: _of what a token does, or what an item, an object, leaves or a machine have; _at where a run begins or stands, or
-- what stands at a number; _by goes by the cases of an attribute or of a part that it is given. See docs/READING.md.
pub mod Operators
pub mod Values
pub mod State
pub mod Deeds
pub mod Steps
pub mod Meaning
pub mod Turns
pub mod View
