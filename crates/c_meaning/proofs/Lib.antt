-- Endings of names: _is what a task, or a part of a loop, means, as an equation. See docs/READING.md.
pub mod Law
pub mod Ends
pub mod Steps
pub mod Runs
pub mod Zeros
pub mod Taking
pub mod Begin
pub mod Unbroken
pub mod Coming
