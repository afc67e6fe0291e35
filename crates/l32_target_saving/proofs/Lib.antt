pub mod Words
pub mod Scene
pub mod Storing
pub mod Law
