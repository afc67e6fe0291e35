pub mod Making
pub mod Restricting
pub mod Worked
