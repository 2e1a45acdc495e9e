pub mod Ways
pub mod Lent
pub mod Flags
pub mod Handed
