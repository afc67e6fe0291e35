pub mod Alike
pub mod Trees
pub mod Settled
pub mod Facts
