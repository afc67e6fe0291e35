pub mod Declarations
pub mod Lowerings
pub mod Bytes
