pub mod Tallies
pub mod Sides
