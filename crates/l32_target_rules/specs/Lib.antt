pub mod Scene
pub mod Laws
pub use Rattle.l32_target_runs
pub use Rattle.l32_target_runs.specs.l32_target_lines as l32_target_lines
pub use Rattle.l32_target_runs.specs.l32_target_operands as l32_target_operands
pub use Rattle.l32_target_runs.specs.l32_target_spelling as l32_target_spelling
pub use Rattle.l32_target_runs.specs.l32_states as l32_states
pub use Rattle.l32_target_runs.specs.judging_effects as judging_effects
pub use Rattle.l32_target_runs.specs.judging_laws as judging_laws
pub use Rattle.l32_target_runs.specs.l32_target_meaning as l32_target_meaning
pub use Rattle.l32_target_runs.specs.l32_templates as l32_templates
pub use Rattle.l32_target_runs.specs.vax_target_meaning as vax_target_meaning
