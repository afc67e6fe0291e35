pub mod Sentences
pub use Rattle.l32_target_meaning
pub use Rattle.call_pieces
pub use Rattle.l32_machine
pub use Rattle.l32_target_meaning.specs.vax_target_meaning as vax_target_meaning
pub use Rattle.l32_target_meaning.specs.l32_templates as l32_templates
pub use Rattle.call_pieces.specs.vax_machine_lists as vax_machine_lists
pub use Rattle.call_pieces.specs.tree_meaning as tree_meaning
