pub mod Covers
pub mod Made
pub mod Possible
pub mod Interprets
pub mod Told
pub mod Claims
pub use Rattle.sel_terms_trees
pub use Rattle.lr_check_parse
pub use Rattle.lr_check_parse.specs.lr_tables as lr_tables
pub use Rattle.sel_terms_trees.specs.tree_meaning_tame as tree_meaning_tame
