pub mod Judge
pub mod Source
pub mod Values
pub mod Work
pub mod Reader
pub mod ScanWritten
