mod Labelling
mod Masking
mod Kept
