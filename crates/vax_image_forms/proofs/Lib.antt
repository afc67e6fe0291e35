pub mod Shifting
pub mod Settling
