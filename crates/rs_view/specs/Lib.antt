pub mod Fresh
pub mod Holding
pub mod Keeping
pub mod Lives
pub mod Stored
pub mod Views
