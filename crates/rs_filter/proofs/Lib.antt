pub mod AcrossFacts
pub mod DistinctLists
pub mod EquiFacts
pub mod JoinColumnFacts
pub mod JoinFacts
pub mod JoinValueFacts
pub mod MatchFacts
pub mod SideFacts
pub mod SplitFacts
mod WorkedJoinValues
mod WorkedMatching
