pub mod Cores
pub mod Joined
pub mod Joins
pub mod Seen
pub mod Tables
