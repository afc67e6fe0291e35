pub mod Tame
pub mod Sights
pub mod Claims
