pub mod Leaves
pub mod Lines
pub mod Trees
pub mod Functions
pub mod Names
pub mod Law
