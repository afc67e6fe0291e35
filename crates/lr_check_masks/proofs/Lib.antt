pub mod Flawless_sets
