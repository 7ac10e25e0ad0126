mod WorkedTyping
pub mod EachFacts
pub mod ResultFacts
pub mod RetypingFacts
pub mod RuleFacts
pub mod StepFacts
pub mod TypingFacts
pub mod UsesFacts
