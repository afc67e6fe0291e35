pub mod Words
pub mod Phrases
pub use Rattle.c_sound
