-- Endings of names: _each what holds of a value where there is one; _ok of what is right. See docs/READING.md.
pub mod Parts
pub mod Numbers
pub mod Binds
pub mod Judged
pub mod Joining
pub mod FrameWords
pub mod Law
