pub mod Bits
pub mod Lines
pub mod Holding
pub mod Starting
pub mod Making
pub mod Counting
