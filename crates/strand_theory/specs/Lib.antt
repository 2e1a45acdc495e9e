pub mod Cuts
pub mod Passes
pub mod Few
pub mod Short
pub mod Rows
