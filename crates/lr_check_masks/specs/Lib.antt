pub mod Flawless
