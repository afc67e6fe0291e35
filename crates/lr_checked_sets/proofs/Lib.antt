-- Endings of names: _from that numbers lead to stacks; _at that stacks lead to numbers; _of what a place or a list has. See docs/READING.md.
pub mod Standing
pub mod Numbers
pub mod Stacks
pub mod Lists
pub mod Law
