-- Endings of names: _so a fact that its neighbours cite; _of what a hole or a form gives. See docs/READING.md.
pub mod Idle
pub mod Law
