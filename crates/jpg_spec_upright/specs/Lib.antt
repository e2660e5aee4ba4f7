pub mod Exif
pub mod Laws
pub mod Upright
