pub mod MaskLaws
pub mod HeadLaws
