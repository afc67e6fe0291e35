pub mod Sets
pub mod Looks
pub mod Kids
pub mod Firsts
pub mod Seconds
pub mod Sheets
pub mod Pairs
