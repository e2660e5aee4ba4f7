pub mod Encoded
pub mod EncodingExamples
pub mod EncodingLaws
