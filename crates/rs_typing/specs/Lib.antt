pub mod Typing
pub mod Rules
pub mod Missing
pub mod Parameters
pub mod References
pub mod Models
