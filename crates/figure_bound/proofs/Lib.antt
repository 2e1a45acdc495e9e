pub mod Near
pub mod Theorem
pub mod Instance
