pub mod EncodingLaws
pub mod DecodingLaws
