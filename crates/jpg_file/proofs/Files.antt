pub mod FileSteps
pub mod ItemBytes
pub mod Leaving
pub mod ReaderFed
