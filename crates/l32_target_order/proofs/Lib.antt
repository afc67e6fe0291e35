pub mod Running
pub mod Dividing
