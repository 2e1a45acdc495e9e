pub mod Encoded
pub mod Kinds
