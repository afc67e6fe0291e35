pub mod Senses
pub mod Effects
pub mod Claims
pub use Rattle.sel_terms_meaning
pub use Rattle.tree_meaning
pub use Rattle.tree_meaning_tame
pub use Rattle.sel_terms_meaning.specs.sel_terms as sel_terms
