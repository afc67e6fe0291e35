-- Endings of names: _by goes by the cases of a part that it is given; _is what a part of a run or of the text is; _at what stands or
-- holds at a place; _in what holds of a label or a call among items or leaves. See docs/READING.md.
pub mod Rooms
pub mod Facts
pub mod Forwards
pub mod Placing
pub mod Going
pub mod Roots
pub mod Following
pub mod Starting
pub mod Validity
pub mod Areas
pub mod Assembling
pub mod Framing
pub mod Simple
pub mod Demo
pub mod Spelling
pub mod Names
pub mod Loaded
pub mod Law
