pub mod Continuing
pub mod Placing
pub mod Straight
