pub mod Found
pub mod Stands
pub mod Links
