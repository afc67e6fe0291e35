pub mod Stages
pub use Rattle.vax_target_laws.specs.vax_target_meaning as vax_target_meaning
pub use Rattle.vax_templates
pub use Rattle.sel_target
