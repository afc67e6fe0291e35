pub mod Combined
pub mod Values
pub mod Objects
pub mod Automatics
pub mod Statements
pub mod Law
pub mod Answers
pub mod Declared
