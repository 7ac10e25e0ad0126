pub mod JoinedFacts
pub mod KindFacts
mod RowFacts
pub mod SeenFacts
