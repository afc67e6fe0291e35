pub mod Frames
pub mod Meanings
pub mod Law
pub mod Advancing
pub mod Values
