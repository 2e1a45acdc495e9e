pub mod Order
pub mod Ends
pub mod Choice
