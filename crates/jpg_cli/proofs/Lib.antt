pub mod Messages
pub mod Outcomes
pub mod Pieces
pub mod Comments
pub mod Encoding
pub mod ByRow
