pub mod Edge
pub mod Figures
