-- Endings of names: _by goes by the cases of a part that it is given; _is what this is, or what a test says of it; _at what stands at a
-- symbol or a line, or is done at a reduction. See docs/READING.md.
pub mod Effects
pub mod Giving
pub mod Homes
pub mod Reducing
pub mod Shapes
pub mod Gives
pub mod Doing
pub mod Growing
pub mod Interpreting
pub mod Law
