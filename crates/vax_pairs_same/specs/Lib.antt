-- Endings of names: _of what the definition has for a value of the code.
pub mod Parts
