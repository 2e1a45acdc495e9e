pub mod Same
pub mod Bound
