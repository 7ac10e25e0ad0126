pub mod After
pub mod Joined
pub mod Pairs
pub mod Ripple
pub mod Stands
