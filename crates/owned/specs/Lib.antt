pub mod Answers
pub mod Plan
