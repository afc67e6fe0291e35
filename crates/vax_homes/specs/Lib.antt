pub mod Choosing
pub mod Homing
pub mod Rows
pub use Rattle.vax_frames
