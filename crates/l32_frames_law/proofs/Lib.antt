-- Endings of names: _is what a step of a call or a return comes to. See docs/READING.md.
pub mod Chain
pub mod Opening
pub mod Entering
pub mod Returning
pub mod Rooms
pub mod Writing
