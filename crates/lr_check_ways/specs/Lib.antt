pub mod Sets
pub mod Ways
