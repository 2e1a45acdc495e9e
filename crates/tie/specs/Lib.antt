pub mod Encode
pub mod Kept
