pub mod Accesses
pub mod Keeping
pub mod Safety
