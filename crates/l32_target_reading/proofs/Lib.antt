pub mod Small
pub mod Places
pub mod Law
