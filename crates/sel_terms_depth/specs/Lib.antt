pub mod Depth
pub mod Claim
