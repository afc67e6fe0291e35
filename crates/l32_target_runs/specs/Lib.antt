pub mod Runs
pub use Rattle.l32_target_lines
pub use Rattle.l32_target_spelling
pub use Rattle.l32_states
pub use Rattle.judging_effects
pub use Rattle.l32_target_lines.specs.l32_target_operands as l32_target_operands
pub use Rattle.l32_target_lines.specs.judging_laws as judging_laws
pub use Rattle.l32_target_lines.specs.l32_target_meaning as l32_target_meaning
pub use Rattle.l32_target_lines.specs.l32_templates as l32_templates
pub use Rattle.l32_target_lines.specs.vax_target_meaning as vax_target_meaning
