pub mod Agreeing
pub mod Answering
pub mod Facts
pub mod Emitting
pub mod Sizes
