pub mod Done
pub mod Ready
