pub mod Stored
pub mod Entries
