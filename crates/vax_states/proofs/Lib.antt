-- Endings of names: _is what the innermost frame is, and where it stands. See docs/READING.md.
pub mod Pieces
pub mod Touching
pub mod Keeping
pub mod Standing
pub mod Law
pub mod Popping
