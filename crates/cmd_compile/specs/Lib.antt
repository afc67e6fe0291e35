pub mod Lines
pub mod Passing
pub mod Texts
pub mod Outcome
pub mod Exact
pub use Rattle.gg_compile.specs.Selecting
pub use Rattle.gg_compile.specs.Keeping
pub use Rattle.cmd_check
pub use Rattle.cmd_meaning
pub use Rattle.cmd_check.specs.lr_checked as lr_checked
pub use Rattle.cmd_check.specs.sel_parse as sel_parse
pub use Rattle.gg_compile
