-- Endings of names: _is what a place, a part of a frame or a list of frames is. See docs/READING.md.
pub mod Calling
pub mod Laws
pub mod Guarding
pub mod Within
pub mod Writing
pub mod Undoing
pub use Rattle.vax_states
pub use Rattle.vax_frames
