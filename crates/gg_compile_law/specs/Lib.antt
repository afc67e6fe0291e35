-- Endings of names: _by goes by the cases of a part that it is given; _of what belongs to an item, a root, an object, a frame or an
-- alignment. See docs/READING.md.
pub mod Roles
pub mod Effects
pub mod Framing
pub mod Programs
pub mod Areas
pub mod Assembled
pub mod Laws
pub mod Demo
pub mod Spelling
pub mod Names
pub mod Loaded
pub mod Written
pub use Rattle.vax_machine_lists
pub use Rattle.vax_frames_law.specs.vax_states as vax_states
pub use Rattle.vax_homes_items
pub use Rattle.vax_homes_frames
