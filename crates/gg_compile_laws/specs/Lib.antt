pub mod Keeping
pub mod Rooms
pub mod Ready
pub mod Typed
pub mod Written
pub use Rattle.c_sound_texts
pub use Rattle.gg_compile_keeps
pub use Rattle.c_typed_check
pub use Rattle.sel_parse_written.specs.sel_parse_effect as sel_parse_effect
pub use Rattle.gg_compile_keeps.specs.vax_target_meaning as vax_target_meaning
pub use Rattle.gg_compile_keeps.specs.gg_compile_code as gg_compile_code
pub use Rattle.sel_parse_written.specs.sel_parse_lines as sel_parse_lines
pub use Rattle.sel_parse_written.specs.sel_parse_selected as sel_parse_selected
pub use Rattle.gg_compile_keeps.specs.gg_compile_names as gg_compile_names
pub use Rattle.sel_parse_written.specs.lr_checked as lr_checked
pub use Rattle.gg_compile_keeps.specs.sel_parse_joined as sel_parse_joined
pub use Rattle.gg_compile_keeps.specs.vax_target_laws as vax_target_laws
pub use Rattle.gg_compile_keeps.specs.gg_compile_effect as gg_compile_effect
pub use Rattle.sel_parse_written.specs.sel_parse as sel_parse
