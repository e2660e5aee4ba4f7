pub mod Common
pub mod Each
pub mod Facts
pub mod Rows
pub mod Small
pub mod Strings
