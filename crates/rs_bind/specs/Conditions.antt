-- WHERE: a condition over the columns that it names, split at each AND at its top.
use Rattle.std.specs.Prelude.{ℕ, List, [], ◌∷◌, ◌++◌, drop, position, Option, Some, None, Result, Ok, Err, if◌then◌else◌}
use Rattle.std.specs.List.{list_any}
use Rattle.rs_syntax.specs.declared.name.ColRef.{ColRef}
use Rattle.rs_syntax.specs.Syntax.{Expression, And}
use Rattle.rs_value.specs.Results.{◌>>=◌}
use Rattle.rs_expr.specs.Formulas.{Condition}
use Rattle.rs_query.specs.Conjuncts.{ConjunctDef}
use Rattle.rs_query.specs.WellFormed.{entries_mask, equality_of, same_column}
use Rattle.rs_typing.specs.declared.fault.BindFault.{BindFault}
use Rattle.rs_typing.specs.declared.fault.BindFault.TheVariants.{At}
use Rattle.rs_typing.specs.declared.fault.Why.TheVariants.{LimitOf, NoColumn}
use Rattle.rs_typing.specs.Missing.{or_fault}
use Rattle.rs_typing.specs.References.{references_of}
use Rattle.rs_typing.specs.Typing.{Scope, span_of, span_of_column, as_truth, type_of}
use Rattle.rs_bind.specs.Sources.{Found, Source, column_in}

-- columns, and one more behind them, unless it is one of them
abbrev pub with_column : List (ℕ × ℕ) → ℕ × ℕ → List (ℕ × ℕ)
with_column columns column = if list_any (same_column column) columns then columns else columns ++ column ∷ []

-- the same of the column that was found for a reference, where one was
abbrev pub with_found : List (ℕ × ℕ) → Result Found BindFault → List (ℕ × ℕ)
with_found columns (Ok found) = with_column columns found.0
with_found columns (Err fault) = columns

-- the same of references, one after the other
abbrev pub with_references : List Source → List (ℕ × ℕ) → List ColRef → List (ℕ × ℕ)
with_references sources columns [] = columns
with_references sources columns (c ∷ references) = with_references sources (with_found columns (column_in sources c)) references

-- the columns that an expression names, each once, by its first occurrence
abbrev pub named_columns : List Source → Expression → List (ℕ × ℕ)
named_columns sources x = with_references sources [] (references_of x)

-- columns as the arguments of an expression: a reference stands for the place among them of the only column that it can stand for
abbrev pub places_in : List (ℕ × ℕ) → List Source → Scope
places_in columns sources c = do
  found ← column_in sources c
  place ← or_fault (At NoColumn (span_of_column c)) (position (same_column found.0) columns)
  Ok (place, found.1)

-- an expression has the columns that it names as its arguments
abbrev pub own_places : List Source → Expression → Scope
own_places sources x = places_in (named_columns sources x) sources

-- a condition over some columns, which has to be a truth value
abbrev pub condition_over : List (ℕ × ℕ) → List Source → Expression → Result Condition BindFault
condition_over columns sources x = type_of (places_in columns sources) x >>= as_truth (span_of x)

-- a condition over its columns as a conjunct
abbrev pub conjunct_of : List (ℕ × ℕ) → Condition → ConjunctDef
conjunct_of columns condition =
    record { condition = condition; columns = columns; entries = entries_mask columns; equality = equality_of condition columns }

abbrev pub conjunct_in : List Source → Expression → Result ConjunctDef BindFault
conjunct_in sources x = condition_over (named_columns sources x) sources x >>= λ c. Ok (conjunct_of (named_columns sources x) c)

-- the same of conditions, from left to right
abbrev pub conjuncts_of : List Source → List Expression → Result (List ConjunctDef) BindFault
conjuncts_of sources [] = Ok []
conjuncts_of sources (x ∷ xs) = do
  first ← conjunct_in sources x
  rest ← conjuncts_of sources xs
  Ok (first ∷ rest)

-- the parts that AND joins at the top of an expression, from left to right
abbrev pub parts_of_and : Expression → List Expression
parts_of_and (And x y at) = parts_of_and x ++ parts_of_and y
parts_of_and x = x ∷ []

-- the most conjuncts of a block
abbrev pub most_conjuncts : ℕ
most_conjuncts = 32

-- where there are more parts than may be, the first one too many is refused
abbrev pub few_parts : List Expression → Result (Unit {0}) BindFault
few_parts parts = of (drop most_conjuncts parts) where
  of : List Expression → Result (Unit {0}) BindFault
  of [] = Ok tt
  of (x ∷ more) = Err (At LimitOf (span_of x))

-- the conjuncts of a WHERE condition: the whole of it has to be a condition, then its parts are counted, and each of them is one
abbrev pub conjuncts_in : List Source → Expression → Result (List ConjunctDef) BindFault
conjuncts_in sources x = do
  whole ← conjunct_in sources x
  few ← few_parts (parts_of_and x)
  conjuncts_of sources (parts_of_and x)

-- the conjuncts of WHERE; none where it isn't written
abbrev pub filter_of : List Source → Option Expression → Result (List ConjunctDef) BindFault
filter_of sources None = Ok []
filter_of sources (Some x) = conjuncts_in sources x
