pub mod Blocks
pub mod Fresh
pub mod Parameters
pub mod Conditions
