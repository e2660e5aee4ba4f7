pub mod Copies
pub mod Led
pub mod MadeRows
pub mod PiecesRead
pub mod SamplesGiven
pub mod SamplesRead
pub mod ShownNone
pub mod TargaRight
