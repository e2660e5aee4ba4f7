pub mod Joins
pub mod Lists
pub mod Made
pub mod Sorts
pub mod Splits
