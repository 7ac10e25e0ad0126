pub mod TableFeedFacts
