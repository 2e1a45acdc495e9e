pub mod Calls
pub mod Fill
pub mod Run
pub mod Theorem
pub mod Within
