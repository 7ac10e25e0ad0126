-- The numbers of a script.
use Rattle.std.specs.Prelude.{ℤ, pos, ◌≤ℤ◌, List, [], ◌∷◌}
use Rattle.rs_value.specs.Number.{greatest_int}
use Rattle.rs_grammar.specs.declared.lexeme.Lexeme.{Lexeme}

-- a number that a script can write
abbrev pub IsNumber : ℤ → Type 0
IsNumber n = (pos 0 ≤ℤ n) × (n ≤ℤ pos greatest_int)

-- the numbers of tokens are such
abbrev pub AreNumbers : List Lexeme → Type 0
AreNumbers [] = Unit {0}
AreNumbers (l ∷ ls) = IsNumber l.number × AreNumbers ls
