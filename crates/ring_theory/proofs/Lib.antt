pub mod Column
pub mod Hold
pub mod Points
pub mod Read
pub mod Sound
pub mod Step
pub mod Write
