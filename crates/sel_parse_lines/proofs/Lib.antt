pub mod Each
pub mod Filling
pub mod Words
pub mod Ending
