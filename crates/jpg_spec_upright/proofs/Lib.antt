pub mod Displayed
pub mod Marked
pub mod MarkedWritten
pub mod TurnedUpright
