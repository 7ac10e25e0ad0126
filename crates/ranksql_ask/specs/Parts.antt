-- Definitions that serve the contracts of private functions alone.
pub mod Asking
pub mod Runners
