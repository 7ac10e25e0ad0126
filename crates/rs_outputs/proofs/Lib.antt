pub mod DistinctFacts
pub mod FirstFacts
pub mod ListFacts
mod PlaceFacts
pub mod SameFacts
pub mod ValueFacts
mod WaitingFacts
