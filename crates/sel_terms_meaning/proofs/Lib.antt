pub mod Alike
pub mod Narrow
