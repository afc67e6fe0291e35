pub mod Tests
pub mod Operands
pub mod Prefixes
pub mod Stores
pub mod Law
