pub mod FewestBits
pub mod Fitted
pub mod FittedExamples
