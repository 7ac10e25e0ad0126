pub mod PutFacts
pub mod PutRowsFacts
pub mod PassedFacts
pub mod AnswerFacts
pub mod AskingFacts
mod Worked
