-- Endings of names: _step what one more element of a list does. See docs/READING.md.
pub mod Texts
pub mod Needs
pub mod Laying
