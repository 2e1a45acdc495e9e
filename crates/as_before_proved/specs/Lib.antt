pub mod Upto
pub mod Within
pub mod Fill
pub mod Capped
pub mod Calls
