pub mod InForce
pub mod KeptMarkers
pub mod MarkersOnce
pub mod QuantsInForce
pub mod Reached
pub mod ReadBytes
pub mod TablesInForce
