pub mod Kids
pub mod Beginning
pub mod Replacing
