pub mod Answers
pub mod Scopes
pub mod Layout
pub mod Contents
pub mod Stack
pub mod Views
