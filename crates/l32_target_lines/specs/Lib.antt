pub mod Takings
pub mod Lines
pub use Rattle.l32_target_operands
pub use Rattle.l32_target_operands.specs.judging_laws as judging_laws
pub use Rattle.l32_target_operands.specs.l32_target_meaning as l32_target_meaning
pub use Rattle.l32_target_operands.specs.l32_templates as l32_templates
pub use Rattle.l32_target_operands.specs.vax_target_meaning as vax_target_meaning
