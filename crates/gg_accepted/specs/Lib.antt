-- No definitions of its own: what is said here is said in those of the crates below.
pub use Rattle.sel_parse_effect
pub use Rattle.lr_checked
