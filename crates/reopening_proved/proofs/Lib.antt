pub mod Alike
pub mod Figures
pub mod Level
pub mod Same
pub mod Theorem
pub mod Twins
pub mod Windows
