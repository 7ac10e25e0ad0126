-- The predicate that a CREATE PREDICATE statement makes, or the first rule that it breaks.
use Rattle.std.specs.Prelude.{ℕ, ℤ, map, Option, Some, None, Result, Ok, Err}
use Rattle.rs_lex.specs.declared.token.Span.{Span}
use Rattle.rs_syntax.specs.Syntax.{Command, CreatePredicate}
use Rattle.rs_value.specs.Results.{◌>>=◌}
use Rattle.rs_expr.specs.Predicates.{PredicateDef}
use Rattle.rs_typing.specs.declared.fault.BindFault.{BindFault}
use Rattle.rs_typing.specs.declared.fault.BindFault.TheVariants.{Memory}
use Rattle.rs_typing.specs.Parameters.{formula_in}
use Rattle.rs_bind.specs.Names.{named, number_in}

-- what a call costs; 1 where it isn't written
abbrev pub cost_of : Option (ℤ × Span) → Result ℕ BindFault
cost_of None = Ok 1
cost_of (Some cost) = number_in 0 65535 cost

-- the parameters, MAX, COST, and then the formula
abbrev pub predicate_of : Command → Result PredicateDef BindFault
predicate_of (CreatePredicate name params max cost formula) = do
  columns ← named 8 params
  most ← number_in 1 4294967295 max
  price ← cost_of cost
  body ← formula_in columns formula
  Ok (record { name = name.text; params = map (λ c. c.1) columns; max = most; cost = price; formula = body })
predicate_of _ = Err Memory

-- a CREATE PREDICATE statement
abbrev pub IsCreatePredicate : Command → Type 0
IsCreatePredicate (CreatePredicate name params max cost formula) = Unit {0}
IsCreatePredicate _ = ⊥
