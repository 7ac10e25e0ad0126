pub mod AfterFacts
mod ArgumentFacts
mod DifferFacts
mod GrowAtFacts
mod GrowthFacts
pub mod HeldFacts
pub mod HeldRowsFacts
pub mod IndexForFacts
mod InsideFacts
pub mod InTurnFacts
mod JoinRowsFacts
pub mod JoinedFacts
mod MakeFacts
mod MergeFacts
mod MoreFacts
mod NameFacts
mod NewRowFacts
mod PlaceFacts
mod RankingFacts
mod SameArguments
mod SeenFacts
pub mod SnapshotFacts
pub mod ScoreFacts
mod WithinFacts
mod WorkedGrowth
mod WorkedRankings
mod WorkedCatalogue
