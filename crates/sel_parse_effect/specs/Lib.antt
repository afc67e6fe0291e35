pub mod Standing
pub mod Places
pub mod Claims
pub use Rattle.sel_parse_stands
pub use Rattle.sel_parse_moves
pub use Rattle.sel_parse
pub use Rattle.sel_parse_moves.specs.sel_terms_trees as sel_terms_trees
pub use Rattle.sel_parse_stands.specs.sel_parse_selected as sel_parse_selected
pub use Rattle.sel_parse_moves.specs.lr_check_parse as lr_check_parse
pub use Rattle.sel_parse_moves.specs.lr_tables as lr_tables
pub use Rattle.sel_parse_moves.specs.tree_meaning_tame as tree_meaning_tame
pub use Rattle.sel_parse.specs.sel_parse_desk as sel_parse_desk
