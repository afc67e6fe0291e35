pub mod Selecting
pub mod Going
pub use Rattle.sel_parse.specs.lr_check_parse as lr_check_parse
pub use Rattle.sel_parse.specs.sel_parse_desk as sel_parse_desk
pub use Rattle.vax_target.specs.vax_target_meaning as vax_target_meaning
