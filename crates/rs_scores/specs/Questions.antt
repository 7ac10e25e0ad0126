-- Questions: what is asked outside.
use Rattle.std.specs.Prelude.{ℕ, Bool, List, ◌∷◌, map}
use Rattle.std.specs.Cmp.Lexicographic.{pointwise}
use Rattle.std.specs.Str.{bytes_eq}
use Rattle.rs_value.specs.Value.{printed}
use Rattle.rs_expr.specs.declared.scorer.Call.{Call}

-- the question of a call: the predicate's name, and the arguments as they are printed
abbrev pub question_of : Call → List (List ℕ)
question_of call = call.predicate ∷ map printed call.args

-- whether two questions are the same, text for text
abbrev pub is_same_question : List (List ℕ) → List (List ℕ) → Bool
is_same_question a b = pointwise bytes_eq a b
