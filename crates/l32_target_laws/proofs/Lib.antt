mod Statements
pub mod Law
