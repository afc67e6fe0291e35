pub mod Services
pub mod Law
