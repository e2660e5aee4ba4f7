pub mod Calling
pub mod Encoding
pub mod FirstScans
