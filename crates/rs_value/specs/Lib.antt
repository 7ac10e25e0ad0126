pub mod Answer
pub mod Results
pub mod Faults
pub mod Outside
pub mod Text
pub mod Number
pub mod Rel
pub mod Value
