pub mod Bytes
pub mod Front
pub mod Spelling
pub mod Tokens
pub mod Faults
