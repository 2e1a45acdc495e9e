pub mod Tidy
pub mod Each
