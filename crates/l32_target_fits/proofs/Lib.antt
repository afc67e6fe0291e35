pub mod Holes
pub mod Forms
pub mod Law
