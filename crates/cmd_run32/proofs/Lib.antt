pub mod Steps
pub mod Leaving
