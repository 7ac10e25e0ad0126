pub mod RecordFacts
pub mod FeedFacts
pub mod RowFacts
mod Worked
mod WorkedStreams
