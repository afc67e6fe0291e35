pub mod Control
pub mod Owners
