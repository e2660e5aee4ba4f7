pub mod EarlyBegun
pub mod EarlyOnce
pub mod EarlyRanges
pub mod EarlyRows
pub mod EarlySoFar
