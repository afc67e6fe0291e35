pub mod Plain
pub mod Claim
