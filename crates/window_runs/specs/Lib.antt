pub mod Parts
pub mod Rest
pub mod Strand
