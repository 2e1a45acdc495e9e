pub mod Instance
pub mod Plan
pub mod Setting
pub mod Story
pub mod Tests
pub mod Theorem
