-- Endings of names: _by goes by the cases of a part that it is given; _is what a place is; _from counted on from a place. See
-- docs/READING.md.
pub mod Law
pub mod Stepping
pub mod Places
pub mod Labelling
pub mod Numbers
pub mod Starting
