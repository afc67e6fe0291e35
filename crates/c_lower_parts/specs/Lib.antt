pub mod Views
pub mod Changes
pub mod Sizes
pub mod Roots
