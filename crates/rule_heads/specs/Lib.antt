pub mod Laws
pub use Rattle.md_reader
pub use Rattle.sel_target
