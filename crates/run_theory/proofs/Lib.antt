pub mod AtRun
pub mod Between
pub mod Calls
pub mod OnePair
pub mod Query
pub mod Run
pub mod Setup
