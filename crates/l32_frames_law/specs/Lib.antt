-- Endings of names: _is what a place or a part of a frame is. See docs/READING.md.
pub mod Calling
pub mod Laws
pub mod Keeping
pub mod Rooms
pub mod Writing
pub use Rattle.l32_frames
pub use Rattle.l32_states
