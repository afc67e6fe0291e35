pub mod Founds
pub mod Lines
