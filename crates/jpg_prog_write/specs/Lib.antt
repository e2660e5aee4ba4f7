pub mod Bands
pub mod Counted
pub mod Items
pub mod Putting
pub mod ScanSinks
pub mod Steps
pub mod Written
