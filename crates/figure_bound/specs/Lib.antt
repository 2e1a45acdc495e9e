pub mod Near
pub mod Samples
pub mod Last
pub mod Instance
