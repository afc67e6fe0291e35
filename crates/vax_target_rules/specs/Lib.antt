pub mod Scene
pub mod Laws
pub use Rattle.vax_target_runs
pub use Rattle.vax_target_runs.specs.vax_confined as vax_confined
pub use Rattle.vax_target_runs.specs.vax_target_confined as vax_target_confined
pub use Rattle.vax_target_runs.specs.vax_target_lines as vax_target_lines
pub use Rattle.vax_target_runs.specs.vax_target_operands as vax_target_operands
pub use Rattle.vax_target_runs.specs.vax_target_meaning as vax_target_meaning
pub use Rattle.vax_target_runs.specs.sel_terms as sel_terms
pub use Rattle.vax_target_runs.specs.sel_target as sel_target
pub use Rattle.vax_target_runs.specs.vax_machine_lists as vax_machine_lists
pub use Rattle.vax_target_runs.specs.vax_states as vax_states
pub use Rattle.vax_target_runs.specs.vax_templates as vax_templates
pub use Rattle.vax_target_runs.specs.tree_core as tree_core
pub use Rattle.vax_target_runs.specs.tree_meaning as tree_meaning
pub use Rattle.vax_target_runs.specs.md_reader as md_reader
pub use Rattle.vax_target_runs.specs.sel_terms_meaning as sel_terms_meaning
pub use Rattle.vax_target_runs.specs.term_core_accesses as term_core_accesses
pub use Rattle.vax_target_runs.specs.vax_machine as vax_machine
