pub mod Longs
pub mod Stores
