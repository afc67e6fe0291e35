pub mod Sizes
pub mod Bytes
pub mod Zeros
pub mod Law
