-- Endings of names: _is at which level of the grammar a phrase stands; `end_is` where the text ends. See docs/READING.md.
pub mod Fitting
pub mod Spelling
pub mod Law
