pub mod Claims
pub use Rattle.sel_parse_lines
pub use Rattle.vax_homes_items
pub use Rattle.vax_target_meaning
