pub mod FirstExif
