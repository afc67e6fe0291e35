-- Endings of names: _of what live calls or a frame have: frames, or the address of a word or an argument. See docs/READING.md.
pub mod Stack
pub mod Agreeing
pub mod Sentences
pub use Rattle.vax_machine_lists
pub use Rattle.tree_meaning
pub use Rattle.vax_machine_lists.specs.vax_machine_live as vax_machine_live
pub use Rattle.vax_machine_lists.specs.vax_machine as vax_machine
pub use Rattle.tree_core
