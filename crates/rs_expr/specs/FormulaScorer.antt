-- The scorer that answers the values of formulas.
use Rattle.std.specs.Prelude.{ℕ, true, None}
use Rattle.rs_expr.specs.Meaning.{value_of}
use Rattle.rs_expr.specs.Scoring.{ScorerState}

-- what contracts see of it after this many calls: it tells none of them, and none fails
abbrev pub formula_state : ℕ → ScorerState
formula_state calls = record {
  answer = λ predicate args. value_of predicate.formula args;
  calls = calls;
  outside = record { told = None; faults = 0; steady = true };
}
