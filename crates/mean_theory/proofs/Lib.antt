pub mod Average
pub mod Sums
pub mod Tiers
pub mod Wholes
