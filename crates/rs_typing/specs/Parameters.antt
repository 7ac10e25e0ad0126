-- The parameters of a predicate, which the columns of its formula stand for.
use Rattle.std.specs.Prelude.{ℕ, suc, List, [], ◌∷◌, Option, Some, None, Result, Err, if◌then◌else◌}
use Rattle.rs_value.specs.declared.kind.Kind.{Kind}
use Rattle.rs_lex.specs.declared.token.Span.{Span}
use Rattle.rs_syntax.specs.declared.name.Name.{Name}
use Rattle.rs_syntax.specs.Syntax.{Expression}
use Rattle.rs_table.specs.Column.{Column, is_named}
use Rattle.rs_value.specs.Results.{◌>>=◌}
use Rattle.rs_expr.specs.Formulas.{Formula}
use Rattle.rs_typing.specs.declared.fault.BindFault.{BindFault}
use Rattle.rs_typing.specs.declared.fault.BindFault.TheVariants.{At}
use Rattle.rs_typing.specs.declared.fault.Why.TheVariants.{NoColumn}
use Rattle.rs_typing.specs.Missing.{or_fault}
use Rattle.rs_typing.specs.Typing.{Scope, as_number, span_of, span_of_column, type_of}

-- the place of the first column of this name, and its kind
abbrev pub placed_from : ℕ → List ℕ → List Column → Option (ℕ × Kind)
placed_from place name [] = None
placed_from place name (column ∷ rest) = if is_named name column then Some (place, column.1) else placed_from (suc place) name rest

abbrev pub placed : List ℕ → List Column → Option (ℕ × Kind)
placed name columns = placed_from 0 name columns

-- a column of a formula is a parameter; one with a dot is none
abbrev pub parameter_of : List Column → Span → Option Name → List ℕ → Result (ℕ × Kind) BindFault
parameter_of params at (Some alias) name = Err (At NoColumn at)
parameter_of params at None name = or_fault (At NoColumn at) (placed name params)

abbrev pub parameter_in : List Column → Scope
parameter_in params c = parameter_of params (span_of_column c) c.alias c.column.text

-- a formula has to be a number
abbrev pub formula_in : List Column → Expression → Result Formula BindFault
formula_in params x = type_of (parameter_in params) x >>= as_number (span_of x)
