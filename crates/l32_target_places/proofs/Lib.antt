pub mod Homes
pub mod Law
