pub mod EncodedRead
pub mod EncodedWritten
pub mod ImageEncoded
pub mod ImageStopped
pub mod OneScan
pub mod SamplesFed
pub mod Worked
