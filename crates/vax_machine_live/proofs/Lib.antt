-- Endings of names: _by goes by the cases of a list or of a test; _is whose a byte is, or what a look at it says. See docs/READING.md.
pub mod OwnerLaws
