-- Endings of names: _by goes by the cases of a part that it is given. See docs/READING.md.
pub mod Splicing
pub mod Bytes
pub mod Names
pub mod Lying
pub mod Same
pub mod Trees
pub mod Effects
pub mod Beginning
pub mod Returning
pub mod Plain
