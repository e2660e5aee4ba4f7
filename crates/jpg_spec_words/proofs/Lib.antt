pub mod EncodedKept
pub mod WorkedBack
