-- Definitions that serve the contracts of private functions alone.
pub mod CommandLine
pub mod Read
pub mod Script
pub mod Scanning
pub mod Holding
