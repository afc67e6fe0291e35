pub mod Pieces
pub mod Naming
pub mod Law
