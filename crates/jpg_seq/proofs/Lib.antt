pub mod Written
pub mod Elements
pub mod Machines
pub mod Readings
pub mod Takings
