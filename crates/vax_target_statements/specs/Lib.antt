pub mod Laws
pub use Rattle.vax_target_rules.specs.vax_confined as vax_confined
pub use Rattle.vax_target_rules.specs.vax_target_runs as vax_target_runs
pub use Rattle.vax_target_rules.specs.vax_target_lines as vax_target_lines
pub use Rattle.vax_target_rules.specs.vax_templates as vax_templates
pub use Rattle.vax_target_rules.specs.vax_target_meaning as vax_target_meaning
pub use Rattle.md_reader
pub use Rattle.vax_target_rules.specs.sel_terms as sel_terms
pub use Rattle.vax_target_rules.specs.sel_target as sel_target
pub use Rattle.vax_target_rules.specs.vax_machine_lists as vax_machine_lists
pub use Rattle.vax_target_rules.specs.vax_states as vax_states
