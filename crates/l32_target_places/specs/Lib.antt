pub mod Laws
pub use Rattle.l32_target_statements
pub use Rattle.sel_parse_effect
