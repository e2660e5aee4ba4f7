pub mod Desks
pub mod Heads
pub mod Open
