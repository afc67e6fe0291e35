-- Endings of names: _by goes by the cases of a part that it is given; _in the part that stands in a phrase. See docs/READING.md.
pub mod Phrases
pub mod Calls
pub mod Expressions
pub mod Relations
pub mod Functions
