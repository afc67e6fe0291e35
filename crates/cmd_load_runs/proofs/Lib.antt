pub mod Law
pub mod Turns
pub mod Counting
