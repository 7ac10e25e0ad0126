pub mod FrontFacts
pub mod SpellingFacts
pub mod EachFacts
pub mod WorkedFront
mod WorkedSpelling
pub mod TokenFacts
pub mod TakenFacts
pub mod FaultFacts
mod WorkedTokens
mod WorkedFaults
