mod Sizes
mod Law
