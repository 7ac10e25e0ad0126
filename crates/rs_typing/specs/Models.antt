-- What the values of the code stand for.
use Rattle.std.specs.Prelude.{Result, Ok, Err}
use Rattle.rs_expr.specs.Formulas.{condition_of, formula_of}
use Rattle.rs_typing.specs.Typing.{Typed, Number, Words, Truth}
use Rattle.rs_typing.specs.declared.typed.Typed.{Typed as TypedParts}
use Rattle.rs_typing.specs.declared.typed.Typed.TheVariants as typed

-- a result with another view of what it holds
abbrev pub result_map : {A B E : Type 0} → (A → B) → Result A E → Result B E
result_map f (Ok a) = Ok (f a)
result_map f (Err fault) = Err fault

-- what an expression is, without where its parts lie in memory
abbrev pub typed_of : TypedParts → Typed
typed_of (typed.Number formula) = Number (formula_of formula)
typed_of (typed.Words side) = Words side
typed_of (typed.Truth condition) = Truth (condition_of condition)
