pub mod Dividing
pub mod Law
