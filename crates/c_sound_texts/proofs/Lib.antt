-- Endings of names: _by goes by the cases of a part that it is given; _of what functions, objects or a text have; _is what this makes or
-- holds; _at what stands at a number, or is laid out at a place. See docs/READING.md.
pub mod Held
pub mod Areas
pub mod Linked
pub mod Contents
pub mod Objects
pub mod Places
pub mod Functions
pub mod Main
pub mod Stores
pub mod Bodies
pub mod Labels
pub mod Named
pub mod Stack
pub mod Finished
pub mod Labelled
pub mod Law
