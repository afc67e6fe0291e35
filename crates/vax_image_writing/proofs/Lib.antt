pub mod WrittenLaws
pub mod PieceLaws
pub mod AreaLaws
pub mod HeadLaws
pub mod TextLaws
pub mod ImageLaws
