mod WorkedViews
pub mod CallFacts
pub mod FirstFacts
pub mod GrowFacts
pub mod HoldingFacts
pub mod LifeFacts
pub mod MergeFacts
pub mod MergedFacts
pub mod PieceFacts
pub mod RowFacts
pub mod SplitFacts
pub mod StandFacts
pub mod TopFacts
