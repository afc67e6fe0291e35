pub mod Laws
pub use Rattle.vax_target_meaning
pub use Rattle.vax_target_meaning.specs.vax_confined as vax_confined
pub use Rattle.tree_core
pub use Rattle.vax_target_meaning.specs.sel_target as sel_target
pub use Rattle.vax_target_meaning.specs.vax_templates as vax_templates
pub use Rattle.vax_target_meaning.specs.md_reader_pieces as md_reader_pieces
pub use Rattle.vax_target_meaning.specs.md_reader as md_reader
pub use Rattle.vax_target_meaning.specs.term_core as term_core
pub use Rattle.vax_target_meaning.specs.sel_terms as sel_terms
pub use Rattle.vax_target_meaning.specs.vax_machine_lists as vax_machine_lists
pub use Rattle.vax_target_meaning.specs.vax_states as vax_states
pub use Rattle.vax_target_meaning.specs.tree_meaning as tree_meaning
pub use Rattle.vax_target_meaning.specs.term_core_accesses as term_core_accesses
pub use Rattle.vax_target_meaning.specs.sel_terms_meaning as sel_terms_meaning
pub use Rattle.vax_target_meaning.specs.vax_machine as vax_machine
