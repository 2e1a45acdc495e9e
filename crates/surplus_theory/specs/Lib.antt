pub mod Agree
pub mod Surplus
