pub mod Filling
pub mod Arguments
