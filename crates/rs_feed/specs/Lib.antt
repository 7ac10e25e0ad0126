pub mod Feeds
pub mod MemFeed
