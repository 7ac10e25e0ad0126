pub mod ItemFacts
pub mod QueueFacts
pub mod RunFacts
pub mod Worked
