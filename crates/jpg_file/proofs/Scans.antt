pub mod Machines
pub mod Runs
pub mod ScanBytes
pub mod ScanLeft
