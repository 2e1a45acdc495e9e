pub mod First
pub mod Checks
pub mod Rows
