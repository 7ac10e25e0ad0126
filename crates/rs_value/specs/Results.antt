-- Steps of which each may be refused.
use Rattle.std.specs.Prelude.{Result, Ok, Err}

-- goes on with the answer of a step, or stops at its fault
infixl 10 ◌>>=◌
abbrev pub ◌>>=◌ : {A B E : Type 0} → Result A E → (A → Result B E) → Result B E
Ok a >>= next = next a
Err fault >>= next = Err fault
