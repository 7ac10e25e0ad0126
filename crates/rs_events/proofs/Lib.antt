pub mod RanFacts
pub mod FetchFacts
pub mod SteppedFacts
pub mod LoopFacts
pub mod OneRun
pub mod SoFar
pub mod InquirySteps
pub mod ToldFacts
