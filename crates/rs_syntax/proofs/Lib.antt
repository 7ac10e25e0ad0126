pub mod Tokens
pub mod Steps
pub mod Spans
pub mod Chains
pub mod Lists
pub mod Results
pub mod Blocks
pub mod Operands
pub mod Cycle
pub mod Scripting
pub mod Cutting
pub mod Numbers
pub mod ScriptFacts
pub mod EachFacts
pub mod TreeFacts
pub mod RowFacts
pub mod SpanFacts
pub mod WrittenFacts
mod FewRows
mod WorkedScripts
mod WorkedWritten
