pub mod Asking
pub mod FactorsNamed
pub mod Matching
pub mod Naming
pub mod RestartNamed
