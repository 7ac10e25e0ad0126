pub mod Conditions
pub mod Distinct
pub mod JoinValues
pub mod Matching
pub mod Stored
