pub mod Machine
pub use Rattle.cmd_descriptions
