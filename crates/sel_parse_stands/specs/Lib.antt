pub mod Stands
pub mod Lines
pub mod Claims
pub use Rattle.sel_parse_selected
