pub mod MirroredBlocks
pub mod MovedFrames
pub mod MovedWritten
pub mod WrittenFront
pub mod WrittenHead
pub mod WrittenQuants
pub mod WrittenState
