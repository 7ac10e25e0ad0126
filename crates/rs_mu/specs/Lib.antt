pub mod Mu
pub mod Stands
