-- Endings of names: _is what this comes to, or what a test says; _at what stands at a frame word or a symbol, or whether a spot is
-- touched. See docs/READING.md.
pub mod Own
pub mod Shapes
pub mod Law
