-- Endings of names: _of what a mnemonic, a base, or a name with a number is. See docs/READING.md.
pub mod Registers
pub mod Ops
pub mod Text
pub mod First
pub mod Valid
pub mod Mnemonics
pub mod Numbers
pub mod Homes
pub mod Same
