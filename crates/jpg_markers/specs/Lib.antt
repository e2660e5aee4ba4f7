pub mod Apps
pub mod Huffmans
pub mod Kept
pub mod OutHead
pub mod Passed
pub mod Reading
pub mod Seen
