pub mod EqualFacts
pub mod MapFacts
pub mod IndexFacts
pub mod AlikeFacts
pub mod Worked
