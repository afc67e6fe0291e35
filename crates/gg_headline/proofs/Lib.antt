pub mod Ending
pub mod Telling
pub mod Compiling
pub mod Running
pub mod Texts
pub mod Bounding
pub mod Long
pub mod Loading
