mod WorkedIndexes
mod WorkedInserts
mod WorkedNames
mod WorkedQueries
pub mod ArgFacts
pub mod ColumnFacts
pub mod ConjunctFacts
pub mod EntryFacts
pub mod FilterFacts
pub mod FormedFacts
pub mod TestFacts
pub mod TopFacts
pub mod ArgumentRuleFacts
pub mod BlockRuleFacts
pub mod QueryRuleFacts
pub mod StatementRuleFacts
pub mod InOrderFacts
pub mod InsertFacts
pub mod InsertRuleFacts
pub mod IndexFacts
pub mod MaskFacts
pub mod NameFacts
pub mod OutputFacts
pub mod PlaceFacts
pub mod SameTermFacts
pub mod SourceFacts
pub mod TermFacts
pub mod TermSteps
pub mod UnrankedFacts
pub mod PartFacts
pub mod ReferenceFacts
pub mod WhereFacts
