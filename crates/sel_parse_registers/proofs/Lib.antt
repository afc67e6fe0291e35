pub mod Pools
pub mod Owning
pub mod Serving
pub mod Law
