pub mod Each
pub mod Numbers
pub mod Laws
pub use Rattle.vax_templates
pub use Rattle.template_judging
pub use Rattle.vax_templates.specs.sel_target as sel_target
pub use Rattle.vax_templates.specs.md_reader as md_reader
pub use Rattle.vax_templates.specs.md_reader_pieces as md_reader_pieces
pub use Rattle.vax_templates.specs.sel_terms as sel_terms
pub use Rattle.vax_templates.specs.term_core as term_core
