mod CommandFacts
