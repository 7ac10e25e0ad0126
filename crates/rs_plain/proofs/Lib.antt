pub mod AskFacts
pub mod BestFacts
mod WorkedAnswers
pub mod FirstFacts
pub mod KeepingFacts
pub mod NameFacts
pub mod OrderFacts
pub mod PieceFacts
pub mod RowFacts
