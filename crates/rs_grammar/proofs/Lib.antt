pub mod Predict
pub mod Beginnings
pub mod Derivation
pub mod OneTree
pub mod Verdict
pub mod EachFacts
pub mod LexemeFacts
pub mod Computed
mod WorkedLexemes
