-- Endings of names: _of the machine's number, stop, ending or course, as selection has it. See docs/READING.md.
pub mod Reading
pub mod Fitting
pub mod Running
pub mod Vax
pub use Rattle.vax_states
pub use Rattle.vax_confined
pub use Rattle.vax_templates.specs.sel_target as sel_target
pub use Rattle.vax_states.specs.vax_machine_lists as vax_machine_lists
pub use Rattle.vax_templates
pub use Rattle.vax_templates.specs.term_core as term_core
pub use Rattle.vax_states.specs.tree_core as tree_core
pub use Rattle.vax_states.specs.vax_machine as vax_machine
pub use Rattle.vax_templates.specs.md_reader as md_reader
pub use Rattle.vax_templates.specs.md_reader_pieces as md_reader_pieces
pub use Rattle.vax_templates.specs.sel_terms as sel_terms
pub use Rattle.vax_templates.specs.md_reader_text as md_reader_text
pub use Rattle.vax_states.specs.tree_meaning as tree_meaning
pub use Rattle.vax_templates.specs.sel_terms_meaning as sel_terms_meaning
pub use Rattle.vax_templates.specs.term_core_accesses as term_core_accesses
