pub mod Rows
pub mod Places
pub mod Packed
pub mod Examples
