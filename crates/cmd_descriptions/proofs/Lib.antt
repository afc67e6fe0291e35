pub mod Leaving
pub mod Exactly
pub mod Telling
pub mod Accepting
