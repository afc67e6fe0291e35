-- Endings of names: _of the machine's number, stop or course, as selection has it, or a longword or an argument of a frame. See
-- docs/READING.md.
pub mod Reading
pub mod Fitting
pub mod Running
pub mod Stack
pub mod Agreeing
pub mod L32
pub use Rattle.l32_templates
pub use Rattle.vax_target_meaning
