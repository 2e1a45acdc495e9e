pub mod Bits
pub mod One
