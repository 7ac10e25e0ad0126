pub mod ScoringFacts
pub mod InOrderFacts
pub mod UsesFacts
pub mod WidthFacts
pub mod EvalFacts
pub mod WrittenFacts
mod WorkedFormulas
mod WorkedScorers
mod WorkedInOrder
