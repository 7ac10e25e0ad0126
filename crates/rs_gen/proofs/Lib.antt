mod TableFacts
mod Worked
