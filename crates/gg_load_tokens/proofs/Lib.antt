pub mod Digits
pub mod Pieces
pub mod Reading
pub mod Lines
pub mod Law
