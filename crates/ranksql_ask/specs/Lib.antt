pub mod AskFaults
pub mod Endings
pub mod Lines
pub mod Passes
pub mod Words
pub mod Parts
