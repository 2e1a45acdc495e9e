pub mod Fetch
pub mod Laws
