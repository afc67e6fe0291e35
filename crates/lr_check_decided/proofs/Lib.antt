-- Endings of names: _is what it is that was found or passed a test; _at what holds at a number, or of an option that is this. See
-- docs/READING.md.
pub mod Faulty
pub mod Paths
pub mod Calming
pub mod Fine
pub mod Settled
pub mod Circling
pub mod Firsts
pub mod Standing
pub mod Holding
