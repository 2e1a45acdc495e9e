pub mod Short
pub mod Theorem
