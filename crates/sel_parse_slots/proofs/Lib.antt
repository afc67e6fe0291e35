-- Endings of names: _of what an entry, a place, a symbol or sorts have, mostly a count; _is what a charge or the list below is, or that
-- an entry is fine. See docs/READING.md.
pub mod Counts
pub mod Fine
pub mod Counting
pub mod Finishing
pub mod Prefixes
pub mod Law
