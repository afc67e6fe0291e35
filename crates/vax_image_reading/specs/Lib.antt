-- Endings of names: _front what stands at the front, _behind and behind_ what stands behind something that was read.
pub mod Fronts
pub mod Operands
pub mod Instrs
pub mod Items
pub mod Taken
pub mod Reading
pub mod Decoding
pub mod Views
