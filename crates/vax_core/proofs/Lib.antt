-- Endings of names: _is what it is that was found, or what a test says. See docs/READING.md.
pub mod RegisterLaws
pub mod ValidLaws
pub mod MnemonicLaws
pub mod NumberLaws
pub mod SameLaws
pub mod ShapeLaws
