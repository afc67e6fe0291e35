pub mod Strings
pub mod Calls
pub mod Rows
pub mod Table
