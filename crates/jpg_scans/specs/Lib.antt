pub mod Judged
pub mod Order
pub mod Own
pub mod Progress
pub mod Restarts
pub mod Sent
pub mod TextState
pub mod WrongTexts
