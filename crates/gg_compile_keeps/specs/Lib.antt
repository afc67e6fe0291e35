pub mod Programs
pub mod Claims
pub use Rattle.gg_compile_effect.specs.vax_target_laws as vax_target_laws
pub use Rattle.gg_compile_code
pub use Rattle.gg_compile_effect.specs.vax_target_writing as vax_target_writing
pub use Rattle.gg_compile_names.specs.vax_target_meaning as vax_target_meaning
pub use Rattle.gg_compile_names
pub use Rattle.sel_parse_joined
pub use Rattle.gg_compile_effect
