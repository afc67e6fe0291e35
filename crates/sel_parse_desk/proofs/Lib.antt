-- Endings of names: _in what is asked of an entry is what the parse's questions answer. See docs/READING.md.
pub mod JoinedLemmas
pub mod Counting
pub mod Reversing
pub mod Searching
pub mod Tallies
pub mod Reloading
pub mod Asking
