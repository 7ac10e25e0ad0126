pub mod TableFeeds
