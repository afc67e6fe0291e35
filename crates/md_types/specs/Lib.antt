pub mod Forms
pub mod Copies
pub mod Expand
pub mod Bad
