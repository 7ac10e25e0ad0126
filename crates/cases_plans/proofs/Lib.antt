pub mod CursorFacts
mod ReadFacts
mod ShapeFacts
mod ScanFacts
