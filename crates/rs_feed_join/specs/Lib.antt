pub mod Cuts
pub mod Pairs
pub mod Ranked
pub mod Sides
pub mod Joins
pub mod Answers
pub mod Parts
