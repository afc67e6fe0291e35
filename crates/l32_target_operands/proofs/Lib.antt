pub mod Worths
pub mod Reading
pub mod Holes
pub mod Forms
pub mod Short
pub mod Tables
