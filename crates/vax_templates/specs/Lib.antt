-- Endings of names: _of what an object, a base, a hole, a line or a rule has, or the last of two; _in what an attribute holds or spells.
-- See docs/READING.md.
pub mod Marks
pub mod Forms
pub mod Instructions
pub mod Settings
pub mod HoleTerms
pub mod Standing
pub mod Targets
pub mod Taking
pub mod Giving
pub mod Deeds
pub mod Judging
pub mod Progress
pub mod GiveLines
pub mod Dropped
pub mod Found
pub mod Filled
pub mod FilledLines
pub mod FrameWords
pub use Rattle.sel_target
pub use Rattle.sel_target.specs.md_reader as md_reader
pub use Rattle.sel_target.specs.sel_terms_meaning as sel_terms_meaning
pub use Rattle.sel_target.specs.sel_terms as sel_terms
pub use Rattle.sel_target.specs.tree_meaning as tree_meaning
pub use Rattle.vax_core
pub use Rattle.gg_base
pub use Rattle.sel_target.specs.term_core as term_core
pub use Rattle.sel_target.specs.md_reader_pieces as md_reader_pieces
pub use Rattle.md_reader_text
pub use Rattle.sel_target.specs.term_core_accesses as term_core_accesses
