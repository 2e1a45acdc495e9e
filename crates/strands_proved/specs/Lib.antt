pub mod Home
pub mod Theorem
pub mod Short
