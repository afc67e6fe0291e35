-- Endings of names: _after what holds behind a part of a step; _enters, _leaves that a frame more or one less is live. See docs/READING.md.
pub mod Frames
pub mod Moving
pub mod Rooms
pub mod Law
