pub mod Kinds
pub mod Grammar
pub mod Places
pub mod Reading
pub mod Lexemes
