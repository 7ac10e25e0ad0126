pub mod Asks
pub mod Climbing
pub mod Last
pub mod Merging
pub mod Schedule
pub mod Sorting
