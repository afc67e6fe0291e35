pub mod Joining
pub mod Coming
pub mod Exactly
pub mod Sizes
