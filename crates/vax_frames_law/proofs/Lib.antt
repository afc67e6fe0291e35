-- Endings of names: _is what a step of a call or a return comes to, or what a register or a mask is; _at what stands or holds at an
-- address or a place; _to what a push, a pop or a move comes to, or the way to the next instruction. See docs/READING.md.
pub mod Entering
pub mod FrameCode
pub mod Functions
pub mod Returning
pub mod Guarding
pub mod Closing
pub mod Labelling
pub mod Framing
pub mod Masks
pub mod Writing
pub mod Undoing
