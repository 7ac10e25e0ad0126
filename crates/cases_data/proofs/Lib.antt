pub mod LoadFacts
