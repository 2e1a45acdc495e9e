pub mod Before
pub mod AsBefore
pub mod Instance
