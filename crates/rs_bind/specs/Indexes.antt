-- The rank index that a CREATE RANK INDEX statement is of, or the first rule that it breaks.
use Rattle.std.specs.Prelude.{ℕ, ◌==◌, Bool, true, false, List, [], ◌∷◌, length, Option, Some, None, option_map, slice_get, unwrap_or, Result, Ok, Err, if◌then◌else◌}
use Rattle.std.specs.List.{list_any}
use Rattle.std.specs.Str.{bytes_eq}
use Rattle.rs_value.specs.declared.kind.Kind.{Kind}
use Rattle.rs_value.specs.declared.kind.Kind.TheVariants as kind
use Rattle.rs_lex.specs.declared.token.Span.{Span}
use Rattle.rs_syntax.specs.declared.name.ColRef.{ColRef}
use Rattle.rs_syntax.specs.declared.name.Name.{Name}
use Rattle.rs_syntax.specs.declared.name.Arg.{Arg}
use Rattle.rs_syntax.specs.declared.name.Arg.TheVariants as arg
use Rattle.rs_syntax.specs.Syntax.{Command, CreateRankIndex}
use Rattle.rs_table.specs.Column.{Column}
use Rattle.rs_value.specs.Results.{◌>>=◌}
use Rattle.rs_expr.specs.Uses.{is_kind}
use Rattle.rs_catalog.specs.Catalog.{CatalogDef, number_named}
use Rattle.rs_catalog.specs.declared.room.What.TheVariants as what
use Rattle.rs_catalog.specs.declared.index.BoundArg.{BoundArg}
use Rattle.rs_catalog.specs.declared.index.BoundArg.TheVariants as bound
use Rattle.rs_catalog.specs.declared.index.IndexDef.{IndexDef}
use Rattle.rs_typing.specs.declared.fault.BindFault.{BindFault}
use Rattle.rs_typing.specs.declared.fault.BindFault.TheVariants.{At, Memory}
use Rattle.rs_typing.specs.declared.fault.Why.TheVariants.{ConstantTerm, NoColumn, NoPredicate, NoTable, WrongCount, WrongKind}
use Rattle.rs_typing.specs.Missing.{or_fault}
use Rattle.rs_typing.specs.Parameters.{placed}
use Rattle.rs_typing.specs.Typing.{span_of_column}

-- which column of the FROM entries a reference stands for, with its kind; or why it stands for none
abbrev pub Entries : Type 0
Entries = ColRef → Result (BoundArg × Kind) BindFault

-- something of a kind, where another one is wanted
abbrev pub of_kind : Kind → Span → BoundArg × Kind → Result BoundArg BindFault
of_kind wanted at found = if is_kind wanted (Some found.1) then Ok found.0 else Err (At WrongKind at)

-- an argument for a parameter of this kind
abbrev pub arg_of : Entries → Kind → Arg → Result BoundArg BindFault
arg_of entries wanted (arg.Column c) = entries c >>= of_kind wanted (span_of_column c)
arg_of entries wanted (arg.Int n at) = of_kind wanted at (bound.Int n, kind.Int)
arg_of entries wanted (arg.Text text at) = of_kind wanted at (bound.Text text, kind.Text)

-- arguments from left to right, as many as parameters
abbrev pub args_of : Entries → List Kind → List Arg → Result (List BoundArg) BindFault
args_of entries [] args = Ok []
args_of entries (wanted ∷ kinds) [] = Ok []
args_of entries (wanted ∷ kinds) (a ∷ args) = do
  first ← arg_of entries wanted a
  rest ← args_of entries kinds args
  Ok (first ∷ rest)

abbrev pub is_column : BoundArg → Bool
is_column (bound.Column entry column) = true
is_column (bound.Int n) = false
is_column (bound.Text text) = false

-- the arguments of a term at this place: their number, each of them, and that one of them is a column
abbrev pub term_args : Entries → List Kind → List Arg → Span → Result (List BoundArg) BindFault
term_args entries params args at =
    if length args == length params then (do
      made ← args_of entries params args
      if list_any is_column made then Ok made else Err (At ConstantTerm at))
    else Err (At WrongCount at)

-- whether a column with this alias before its dot, or with no dot, can be one of the FROM entry of that alias
abbrev pub is_of_entry : List ℕ → Option Name → Bool
is_of_entry alias None = true
is_of_entry alias (Some name) = bytes_eq name.text alias

-- the column at this place of FROM entry 1, with its kind
abbrev pub in_first_entry : ℕ × Kind → BoundArg × Kind
in_first_entry found = (bound.Column 1 found.0, found.1)

-- the columns of one FROM entry, the first one, of this alias
abbrev pub entry_column : List ℕ → List Column → Entries
entry_column alias columns c =
    if is_of_entry alias c.alias then or_fault (At NoColumn (span_of_column c)) (option_map in_first_entry (placed c.column.text columns))
    else Err (At NoColumn (span_of_column c))

-- the columns of the table of this number, and the kinds of the parameters of the predicate
abbrev pub columns_in : CatalogDef → ℕ → List Column
columns_in catalogue table = unwrap_or (option_map (λ t. t.table.schema) (slice_get catalogue.tables table)) []

abbrev pub params_in : CatalogDef → ℕ → List Kind
params_in catalogue predicate = unwrap_or (option_map (λ p. p.params) (slice_get catalogue.predicates predicate)) []

-- the table, then the predicate and its arguments, which are those of a term over the table under its own name: their
-- number, each of them, and that one is a column
abbrev pub index_def_of : CatalogDef → Command → Result IndexDef BindFault
index_def_of catalogue (CreateRankIndex name table predicate args at) = do
  t ← or_fault (At NoTable table.at) (number_named what.Table table.text catalogue)
  p ← or_fault (At NoPredicate predicate.at) (number_named what.Predicate predicate.text catalogue)
  made ← term_args (entry_column table.text (columns_in catalogue t)) (params_in catalogue p) args at
  Ok (record { name = name.text; table = t; predicate = p; args = made })
index_def_of catalogue _ = Err Memory

-- a CREATE RANK INDEX statement
abbrev pub IsCreateRankIndex : Command → Type 0
IsCreateRankIndex (CreateRankIndex name table predicate args at) = Unit {0}
IsCreateRankIndex _ = ⊥
