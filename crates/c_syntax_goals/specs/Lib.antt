-- Endings of names: _step what a goal does at a token; _in what a token holds. See docs/READING.md.
pub mod Goals
pub mod Contents
pub mod Types
pub mod Expressions
pub mod Groups
pub mod Wanted
pub mod Declarators
pub mod Statements
pub mod Externals
pub mod Turns
pub mod Machine
pub mod Openings
pub mod StatementOpenings
pub mod UnitOpenings
pub mod Refusals
