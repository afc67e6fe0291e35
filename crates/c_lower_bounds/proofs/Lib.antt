pub mod Trees
pub mod Values
pub mod Conditions
pub mod Places
pub mod Calls
pub mod Phrases
pub mod Statements
pub mod Law
