pub mod Beginning
pub mod Begins
pub mod Bounded
pub mod Framed
pub mod OneCode
pub mod Reached
pub mod Selected
pub mod Selecting
pub use Rattle.gg_compile_code.specs.vax_target_meaning as vax_target_meaning
pub use Rattle.gg_compile_laws.specs.c_typed_check as c_typed_check
pub use Rattle.gg_compile_laws.specs.sel_parse as sel_parse
pub use Rattle.gg_compile_laws.specs.sel_parse_effect as sel_parse_effect
