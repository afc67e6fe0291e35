pub mod Piece
pub mod Laws
pub use Rattle.vax_machine_lists
pub use Rattle.tree_meaning
