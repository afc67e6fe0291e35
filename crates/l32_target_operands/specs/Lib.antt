-- Endings of names: _is what an operand, or a rule's own one, is. See docs/READING.md.
pub mod Scenes
pub mod Places
pub mod Functions
pub use Rattle.judging_laws
pub use Rattle.l32_target_meaning
pub use Rattle.l32_target_meaning.specs.l32_templates as l32_templates
pub use Rattle.l32_target_meaning.specs.vax_target_meaning as vax_target_meaning
