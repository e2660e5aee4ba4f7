pub mod EncodedWritten
