pub mod Taken
pub mod All
pub mod Table
pub mod Whole
pub mod Performing
