pub mod Laws
pub use Rattle.vax_target_writing
pub use Rattle.vax_target_writing.specs.vax_templates as vax_templates
pub use Rattle.vax_target_writing.specs.sel_target as sel_target
pub use Rattle.vax_target_writing.specs.vax_target_meaning as vax_target_meaning
pub use Rattle.vax_target_writing.specs.vax_machine_lists as vax_machine_lists
pub use Rattle.vax_target_writing.specs.vax_states as vax_states
pub use Rattle.vax_target_writing.specs.tree_meaning as tree_meaning
pub use Rattle.vax_target_writing.specs.md_reader as md_reader
pub use Rattle.vax_target_writing.specs.sel_terms as sel_terms
