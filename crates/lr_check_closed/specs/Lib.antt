-- See docs/READING.md.
pub mod Sets
pub mod Looks
pub mod Kids
pub mod Closing
pub mod Fine
pub mod Shown
