pub mod Chain
pub mod Pass
pub mod Seen
