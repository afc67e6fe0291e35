-- Endings of names: _so a fact that its neighbours cite, or that a stack which is alike does the same; _of a fact of this name, made of
-- another; _as the same of what equals it. See docs/READING.md.
pub mod Alike
pub mod Splitting
pub mod Asking
pub mod Leading
pub mod Making
pub mod Found_trees
pub mod Beginning
pub mod Round
pub mod Typing
pub mod Stopping
pub mod Ruling
pub mod Following
pub mod Shown
pub mod Having
pub mod Replaying
pub mod Drawing
pub mod Drawn_samples
pub mod Lasting
