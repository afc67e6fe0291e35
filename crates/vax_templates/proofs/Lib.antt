-- Endings of names: _is what was read, or what is answered where it is no refusal. See docs/READING.md.
pub mod Homes
pub mod Judgements
