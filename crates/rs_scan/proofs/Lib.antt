pub mod IndexFacts
mod LastFacts
pub mod ScanFacts
mod WorkedScans
