pub mod Found
pub mod Every
pub mod Cut
