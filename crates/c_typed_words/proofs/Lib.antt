-- Endings of names: _of, in `Spelled`, that what holds of each token of a phrase holds of its parts. See docs/READING.md.
pub mod Spelled
pub mod Any
pub mod Tokens
