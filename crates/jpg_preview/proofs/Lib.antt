pub mod FedSteps
pub mod FrontFound
pub mod FrontShown
pub mod LastBytes
pub mod PartSteps
pub mod PieceSteps
pub mod ScansCounted
pub mod ViewSteps
