-- Endings of names: _of what an attribute, an effect, a rule, an operand or an object has. See docs/READING.md.
pub mod Calls
pub mod Courses
pub mod EffectTerms
pub mod Faults
pub mod Instances
pub mod Laws
pub mod Meaning
pub mod OperandLaws
pub mod Outcomes
pub mod Restrictions
pub mod SavingLaws
pub mod Spelled
pub mod StatementLaws
pub mod Symbols
pub mod TemplateLaws
pub mod Values
pub use Rattle.sel_terms_meaning
pub use Rattle.sel_terms_meaning.specs.md_reader as md_reader
pub use Rattle.sel_terms_meaning.specs.sel_terms as sel_terms
pub use Rattle.md_reader_pieces
pub use Rattle.tree_meaning
pub use Rattle.sel_terms_meaning.specs.term_core_accesses as term_core_accesses
pub use Rattle.tree_core
pub use Rattle.sel_terms_meaning.specs.term_core as term_core
