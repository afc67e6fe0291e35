pub mod Statements
pub mod Need
pub mod Programs
