-- Endings of names: _of the instruction of a mnemonic. See docs/READING.md.
pub mod Ops
pub mod Text
pub mod Valid
pub mod Mnemonics
