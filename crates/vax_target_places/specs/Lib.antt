pub use Rattle.sel_parse_effect
pub use Rattle.sel_parse_effect.specs.sel_parse_stands as sel_parse_stands
pub use Rattle.sel_parse_effect.specs.sel_parse as sel_parse
pub use Rattle.vax_target_writing
pub use Rattle.sel_parse_effect.specs.sel_parse_desk as sel_parse_desk
