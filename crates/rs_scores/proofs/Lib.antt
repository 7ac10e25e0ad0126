pub mod KnownTablesFacts
pub mod QuestionFacts
pub mod KnownFacts
pub mod TableFacts
pub mod PlaceFacts
pub mod ReadingFacts
pub mod KnownByFacts
pub mod NumeralFacts
pub mod JoinFacts
pub mod LineFacts
pub mod KeptFacts
pub mod NewFacts
pub mod FoundFacts
mod Worked
