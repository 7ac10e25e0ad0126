pub mod OutsideFacts
pub mod ResultFacts
pub mod NumberFacts
pub mod OnLiterals
pub mod TextFacts
pub mod Worked
