pub mod Claims
pub use Rattle.tree_homes
