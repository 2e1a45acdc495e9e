pub mod Short
pub mod Few
pub mod Rows
