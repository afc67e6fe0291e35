pub mod Law
pub mod Places
pub mod Facts
pub mod Labels
