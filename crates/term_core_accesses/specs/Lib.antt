pub mod Accesses
pub mod Keeping
