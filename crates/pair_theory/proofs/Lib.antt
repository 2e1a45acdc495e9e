pub mod Fill
pub mod Pair
pub mod Windows
