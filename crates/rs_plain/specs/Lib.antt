pub mod Keeping
pub mod Ordering
pub mod Plain
pub mod Results
