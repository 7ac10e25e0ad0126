pub mod Compared
pub mod Heads
pub mod Held
pub mod Reached
pub mod Sets
pub mod Sides
pub mod Stands
pub mod Union
