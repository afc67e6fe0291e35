-- Endings of names: _is what it is that was found. See docs/READING.md.
pub mod MnemonicLaws
pub mod ShapeLaws
