pub mod Standing
pub mod Symbols
pub mod Law
