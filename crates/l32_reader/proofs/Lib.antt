pub mod OperandLaws
pub mod OpLaws
pub mod InstrLaws
pub mod LineLaws
pub mod KindLaws
pub mod TextLaws
