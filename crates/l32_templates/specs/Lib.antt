-- Endings of names: _of what an attribute, an operand or a relation has; _in what an attribute holds or spells. See docs/READING.md.
pub mod Forms
pub mod Instructions
pub mod Standing
pub mod Taking
pub mod Giving
pub mod Deeds
pub mod Judging
pub mod GiveLines
pub mod Found
pub mod Homes
pub mod Filled
pub mod FilledLines
pub mod Spelled
pub use Rattle.vax_templates
pub use Rattle.template_judging
pub use Rattle.l32_machine
pub use Rattle.l32_core
