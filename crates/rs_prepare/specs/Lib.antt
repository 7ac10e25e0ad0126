pub mod DirEnds
pub mod Preparing
pub mod Questions
pub mod Seeing
