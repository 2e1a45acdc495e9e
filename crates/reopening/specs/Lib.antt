pub mod Reopening
pub mod Instance
