pub mod ExpandLaws
pub mod BadLaws
