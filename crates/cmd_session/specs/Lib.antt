pub mod Writing
pub mod Reading
pub mod Words
pub mod Choice
pub mod Lines
pub mod Running
pub mod Telling
