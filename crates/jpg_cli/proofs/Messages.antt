pub mod Decimal
pub mod Names
