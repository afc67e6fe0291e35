-- Endings of names: _of the shape, the nodes or the size of a term; _at what stands at a number or an address. See docs/READING.md.
pub mod Operators
pub mod Shape
pub mod Form
pub mod Facts
pub mod Order
pub mod NormUnary
pub mod NormBinary
pub mod Norm
pub mod Normal
pub mod Value
pub mod Equations
pub mod Nodes
pub mod Built
pub mod NodeOrder
pub mod Text
