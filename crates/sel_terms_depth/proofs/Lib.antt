pub mod Norming
pub mod Patterns
