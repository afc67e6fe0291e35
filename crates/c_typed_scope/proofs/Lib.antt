pub mod Entries
pub mod Innermost
pub mod Written
pub mod Opening
