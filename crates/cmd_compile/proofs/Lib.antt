pub mod Exactly
pub mod Stages
pub mod Reading
pub mod Counting
