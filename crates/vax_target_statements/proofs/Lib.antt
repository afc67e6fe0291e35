-- Endings of names: _is, in `Saving`, that a saved result's place is that of the token that saves; elsewhere what this is or does. See
-- docs/READING.md.
pub mod LastLines
pub mod Deeds
pub mod Homes
pub mod Firsts
pub mod Controls
pub mod Saving
pub mod Saves
pub mod Law
