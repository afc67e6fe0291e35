-- Endings of names: _by goes by the cases of a part that it is given; _of what an effect, a function or a symbol has; _is what this is,
-- or what a test that is true says; _at what holds at a number or a kind, or of a home and an address. See docs/READING.md.
pub mod InOrder
pub mod Kept
pub mod Law
pub mod Readings
pub mod Results
pub mod Sample
pub mod Saved
pub mod Shaped
pub mod Sources
pub mod Spelled
pub mod Stated
pub mod Taken
