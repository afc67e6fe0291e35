pub mod Counting
pub mod Bounding
pub mod Law
