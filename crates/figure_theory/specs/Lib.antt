pub mod Back
pub mod Ends
pub mod Whole
pub mod Same
