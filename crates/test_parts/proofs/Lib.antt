pub mod BlockSet
pub mod Begun
pub mod SeqScans
