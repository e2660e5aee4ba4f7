pub mod Entries
pub mod Firsts
pub mod Fronts
pub mod Marking
