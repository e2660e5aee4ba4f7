pub mod Reader
pub mod Samples
pub mod TargaGiven
pub mod TargaRead
pub mod TargaState
