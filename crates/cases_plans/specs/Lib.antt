pub mod Shapes
pub mod Scans
