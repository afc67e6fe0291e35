pub mod Machine
pub mod Rules
pub mod Descriptions
pub mod Outcome
pub mod Exact
pub use Rattle.cmd_descriptions
pub use Rattle.cmd_descriptions.specs.lr_checked as lr_checked
pub use Rattle.cmd_descriptions.specs.sel_parse as sel_parse
pub use Rattle.vax_target.specs.vax_target_meaning as vax_target_meaning
