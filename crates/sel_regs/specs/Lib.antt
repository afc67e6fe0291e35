-- Endings of names: _of what a template needs, how a register starts, or the older of two. See docs/READING.md.
pub mod Need
pub mod Pool
pub mod Slots
