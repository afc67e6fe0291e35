mod Chains
mod Keeping
mod Stepping
mod Functioning
mod Laying
pub mod Knowing
pub mod Facts
pub mod Certifying
mod Masking
pub mod Accepting
mod Example
