pub mod Scans
pub mod Headers
pub mod Files
pub mod ByRow
pub mod Writing
