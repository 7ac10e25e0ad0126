-- Definitions that serve the contracts of private functions, and of those that runs are put together from.
pub mod Named
pub mod Session
pub mod Steps
pub mod Asks
pub mod PlannedQuery
