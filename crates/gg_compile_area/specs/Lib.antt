-- No definitions of its own: what is said here is said in those of the crates below.
pub use Rattle.gg_compile_law
