pub mod Answers
pub mod Appending
pub mod SegmentsSoFar
pub mod Inserting
pub mod Pieces
pub mod Printing
pub mod ReadComments
pub mod WriteInserted
