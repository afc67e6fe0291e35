pub mod Rights
pub mod Classes
pub mod Spilling
pub mod Reducing
pub mod Law
