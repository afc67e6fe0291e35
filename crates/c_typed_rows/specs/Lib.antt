pub mod Operands
pub mod Prefixes
pub mod Stores
pub mod Rows
