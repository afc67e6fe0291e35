pub mod Laws
pub use Rattle.vax_target_rules
pub use Rattle.vax_target_rules.specs.sel_target as sel_target
