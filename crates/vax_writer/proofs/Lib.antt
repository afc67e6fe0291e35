pub mod AsciiLaws
