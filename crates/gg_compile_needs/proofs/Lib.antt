-- Endings of names: _by goes by the cases of a part that it is given. See docs/READING.md.
pub mod Locals
pub mod Needs
pub mod Data
pub mod Objects
pub mod Adding
pub mod Values
pub mod Units
pub mod Law
