-- Endings of names: _of what a node, an entry or a stack has; _at what stands at a depth or a number, or goes by what may stand there.
-- See docs/READING.md.
pub mod Tree
pub mod Parse
pub mod Order
pub mod Questions
pub mod Steps
pub mod Running
pub mod Statement
