pub mod Rehoming
pub mod Claims
pub use Rattle.tree_meaning
