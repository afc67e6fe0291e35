pub mod Meaning
pub mod Alike
pub use Rattle.term_core_accesses
pub use Rattle.sel_terms.specs.term_core as term_core
pub use Rattle.sel_terms
pub use Rattle.sel_terms.specs.md_reader as md_reader
