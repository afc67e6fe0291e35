pub mod Choosing
pub mod Homing
pub mod Nothing
pub mod Rows
