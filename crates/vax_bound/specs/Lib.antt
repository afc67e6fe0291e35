-- Endings of names: _by goes by numbers of frames and by places; _in what is counted in a run. See docs/READING.md.
pub mod Counted
pub mod Bound
