pub mod ContentsFacts
pub mod FetchFacts
pub mod FolderFacts
pub mod PieceFacts
pub mod StreamFacts
mod Worked
