pub mod AnswerFacts
pub mod KeyFacts
pub mod MuFacts
pub mod StandFacts
pub mod StepFacts
pub mod Worked
