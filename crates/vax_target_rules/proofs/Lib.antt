-- Endings of names: _so a fact that its neighbours cite; _by goes by the cases of a part that it is given; _is what this is, or what is
-- answered where it is no refusal; _at what holds at a symbol. See docs/READING.md.
pub mod Instances
pub mod Founds
pub mod Results
pub mod Counts
pub mod Law
