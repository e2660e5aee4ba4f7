pub mod Groups
pub mod Parts
pub mod Sizes
pub mod Split
