pub mod Growing
pub mod Pruned
