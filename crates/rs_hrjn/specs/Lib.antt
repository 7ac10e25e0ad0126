pub mod Drawn
pub mod Hashed
pub mod Index
