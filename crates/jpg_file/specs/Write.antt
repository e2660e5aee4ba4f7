pub mod WriteFile
pub mod WriteScan
