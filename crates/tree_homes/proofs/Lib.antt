pub mod Standing
pub mod Pairs
pub mod Validity
pub mod Running
pub mod Choices
