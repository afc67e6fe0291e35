-- Endings of names: _so a fact that its neighbours cite; _is what this comes to, as an equation. See docs/READING.md.
pub mod Choosing
pub mod Asked
pub mod Labels
pub mod OneWay
pub mod Sources
pub mod Bounds
pub mod Existence
pub mod Listing
pub mod Typing
