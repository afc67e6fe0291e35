pub mod Sayings
pub mod Table
