pub mod CopyFacts
pub mod FieldFacts
pub mod FirstFacts
pub mod HeaderFacts
pub mod NumberFacts
pub mod ReadFacts
pub mod RecordsFacts
pub mod RelationFacts
pub mod StoredFacts
pub mod TextFacts
mod Worked
mod WorkedRecords
