pub mod Claim
pub mod Zeros
