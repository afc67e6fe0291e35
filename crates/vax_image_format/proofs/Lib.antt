pub mod RegisterLaws
pub mod OpLaws
pub mod LengthLaws
pub mod FitLaws
pub mod PlaceLaws
pub mod RowLaws
