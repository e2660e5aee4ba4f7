pub mod Changed
pub mod MovedBlocks
pub mod Places
pub mod Planned
pub mod RowsMoved
