-- Endings of names: _by goes by the cases of a part that it is given; _at what holds at a place. See docs/READING.md.
pub mod Walking
pub mod Carrying
pub mod Labels
pub mod Beginning
pub mod Returning
pub mod Roots
pub mod Tallying
pub mod Starting
pub mod Law
